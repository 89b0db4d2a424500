-- Pending watches by registration: none, one more, one taken out, and one moved.
use Rattle.std.proofs.Common.{◌≡◌, ℕ, ◌+◌, ◌<◌, nat_eq, false, not, cond, refl, sym, ap, ◌∙◌, subst, List, [], ◌∷◌, ◌++◌, filter, length, is_some, Option, None, Some, arith, inl, inr}
use Rattle.std.specs.List.{list_any, AllByRecursion, IsDistinct}
use Rattle.std.specs.Map.{keys_of, values_of, remove_entry, lookup, set_value}
use Rattle.std.specs.BTreeMap.{is_at}
use Rattle.std.specs.Ordering.{nat_cmp}
use Rattle.std.proofs.lemmas.Bool.{cases_Bool, eqb-true, eq-eqb, false≢true}
use Rattle.std.proofs.lemmas.Option.{same_Some, none-some}
use Rattle.std.proofs.lemmas.List.{map-append}
use Rattle.std.proofs.Math.Arith.{digits_mod}
use Rattle.point_core.specs.declared.entry.Point.{Point}
use Rattle.fence_core.specs.declared.watches.TheConstants.{WATCHES}
use Rattle.fence_core.specs.declared.watches.registration.TheConstants.{COOKIES}
use Rattle.fence_core.specs.declared.watches.pending.PendingWatch.{PendingWatch}
use Rattle.fence_core.specs.Fence.{members_of, fence_of}
use Rattle.fence_core.specs.Registration.{numbered, cookie_of}
use Rattle.fence_core.specs.Watch.{Watch, is_for, cookies_of, ArePending}
use Rattle.fence_core.specs.Pending.{Places, watch_in, by_registration, in_order, watches_of}
use Rattle.fence_core.specs.Registered.{AreKept, AreBefore, AreRegistered}
use Rattle.fence_core.proofs.Pending.{ArePending-none, ArePending-filter, ArePending-push, filter-other, apart-any}
use Rattle.fence_core.proofs.InOrder.{is_at-true, is_at-false, at-none, all-at, all-keys, none-any, insert_entry-last, in_order-put, in_order-taken, ordered-in_order}
use Rattle.fence_core.proofs.ByCookie.{at-by_registration, found-is, found-there, AreKept-put, by_registration-put, still-there, AreKept-taken, by_registration-taken, by_registration-moved, lookup-moved}

pub cookie_of-numbered : (made cookie : ℕ) → cookie < COOKIES → cookie_of (numbered made cookie) ≡ cookie
cookie_of-numbered made cookie fits = digits_mod made fits

-- what holds of each watch by its cookie holds of each entry
all-entries : (P : ℕ → Watch → Type 0) (es : Places) → AreKept es → ((w : PendingWatch) → lookup (nat_eq (cookie_of w.place.registration)) es ≡ Some w → P w.place.registration (watch_in w)) → AllByRecursion (λ (e : ℕ × Watch). P e.0 e.1) (in_order (by_registration es))
all-entries P es h each = all-at P (in_order (by_registration es)) (ordered-in_order (by_registration es)) (λ r v is.
    let it = found-is es r v (sym (at-by_registration es r h) ∙ is) in
    subst (λ x. P r x) it.3 (subst (λ n. P n (watch_in it.0)) it.2 (each it.0 (ap (λ n. lookup (nat_eq (cookie_of n)) es) it.2 ∙ it.1))))

-- a watch of the cookie is pending exactly if the cookie is there
pub list_any-watches_of : (es : Places) (cookie : ℕ) → AreKept es → list_any (is_for cookie) (watches_of es) ≡ is_some (lookup (nat_eq cookie) es)
list_any-watches_of es cookie h = by (lookup (nat_eq cookie) es) refl
  where
    by : (o : Option PendingWatch) → lookup (nat_eq cookie) es ≡ o → list_any (is_for cookie) (watches_of es) ≡ is_some o
    by None none = none-any (is_for cookie) (in_order (by_registration es)) (all-entries (λ r v. is_for cookie v ≡ false) es h (λ w there. elim (cases_Bool (nat_eq (cookie_of w.place.registration) cookie)) [
      | inl same ↦ absurd (none-some w (sym none ∙ ap (λ c. lookup (nat_eq c) es) (sym (eqb-true (cookie_of w.place.registration) cookie same)) ∙ there))
      | inr other ↦ other
    ]))
    by (Some w) there = elim (cases_Bool (list_any (is_for cookie) (watches_of es))) [
      | inl any ↦ any
      | inr none ↦
          let its = at-none (is_for cookie) (in_order (by_registration es)) w.place.registration (watch_in w) none (at-by_registration es w.place.registration h ∙ found-there es cookie w h.own there) in
          absurd (false≢true (sym its ∙ eq-eqb (cookie_of w.place.registration) cookie (h.own cookie w there)))
    ]

-- if no watch is of the cookie, it is not there
pub lookup-new : (es : Places) (cookie : ℕ) → AreKept es → list_any (is_for cookie) (watches_of es) ≡ false → lookup (nat_eq cookie) es ≡ None
lookup-new es cookie h none = by (lookup (nat_eq cookie) es) (sym (list_any-watches_of es cookie h) ∙ none)
  where
    by : (o : Option PendingWatch) → is_some o ≡ false → o ≡ None
    by None is = refl
    by (Some w) is = absurd (false≢true (sym is))

-- none
none_registered : (made : ℕ) → AreRegistered [] made
unfolding IsDistinct
none_registered made = record {
  pending = ArePending-none;
  kept = record { distinct = tt; own = λ cookie w there. absurd (none-some w there) };
  before = record { each = λ cookie w there. absurd (none-some w there) };
}

pub AreRegistered-none : (es : Places) (made : ℕ) → es ≡ [] → AreRegistered es made
AreRegistered-none es made is = subst (λ xs. AreRegistered xs made) (sym is) (none_registered made)

-- one more, of the greatest registration
module _ (es more : Places) (made cookie : ℕ) (w : PendingWatch) (numbered_is : w.place.registration ≡ numbered made cookie) (fits : cookie < COOKIES) (new : lookup (nat_eq cookie) es ≡ None) (put : (q : ℕ) → lookup (nat_eq q) more ≡ cond (nat_eq cookie q) (Some w) (lookup (nat_eq q) es)) (distinct : IsDistinct nat_eq (keys_of more)) (h : AreRegistered es made) where
  its : cookie_of w.place.registration ≡ cookie
  its = ap cookie_of numbered_is ∙ cookie_of-numbered made cookie fits

  pub watches_of-push : watches_of more ≡ watches_of es ++ watch_in w ∷ []
  watches_of-push =
      let low : AllByRecursion (λ n. n < w.place.registration) (keys_of (in_order (by_registration es))) = all-keys (λ n. n < w.place.registration) (in_order (by_registration es)) (all-entries (λ n v. n < w.place.registration) es h.kept (λ v there. let up = h.before.each (cookie_of v.place.registration) v there in omega (arith, up, numbered_is))) in
      ap values_of (in_order-put (by_registration es) (by_registration more) w.place.registration (watch_in w) (by_registration-put es more cookie w its new put h.kept distinct) ∙ insert_entry-last (in_order (by_registration es)) w.place.registration (watch_in w) low)
      ∙ map-append (λ (e : ℕ × Watch). e.1) (in_order (by_registration es)) ((w.place.registration, watch_in w) ∷ [])

  pub AreRegistered-push : list_any (is_for cookie) (watches_of es) ≡ false → length (watches_of es) < WATCHES → AreRegistered more (made + 1)
  AreRegistered-push none room = record {
    pending = subst ArePending (sym watches_of-push) (ArePending-push (watch_in w).cookie (watch_in w).points h.pending (ap (λ c. list_any (is_for c) (watches_of es)) its ∙ none) room);
    kept = AreKept-put es more cookie w its new put h.kept distinct;
    before = record {
      each = λ q v is. elim (cases_Bool (nat_eq cookie q)) [
        | inl here ↦
            let same : w ≡ v = same_Some w v (sym (put q ∙ ap (λ b. cond b (Some w) (lookup (nat_eq q) es)) here) ∙ is) in
            subst (λ (x : PendingWatch). x.place.registration < numbered (made + 1) 0) same (omega (arith, numbered_is, fits))
        | inr other ↦
            let up = h.before.each q v (sym (put q ∙ ap (λ b. cond b (Some w) (lookup (nat_eq q) es)) other) ∙ is) in
            omega (arith, up)
      ];
    };
  }

-- one taken out
values_of-remove : (cookie r : ℕ) (es : List (ℕ × Watch)) → IsDistinct nat_eq (cookies_of (values_of es)) → AllByRecursion (λ (e : ℕ × Watch). is_for cookie e.1 ≡ is_at (nat_cmp r) e.0) es → values_of (remove_entry (is_at (nat_cmp r)) es) ≡ filter (λ w. not (is_for cookie w)) (values_of es)
unfolding IsDistinct
values_of-remove cookie r [] distinct each = refl
values_of-remove cookie r (e ∷ es) distinct each = elim (cases_Bool (is_for cookie e.1)) [
  | inl here ↦
      let none = apart-any cookie (values_of es) (subst (λ k. AllByRecursion (λ y. nat_eq k y ≡ false) (cookies_of (values_of es))) (eqb-true e.1.cookie cookie here) distinct.0) in
      ap (λ b. values_of (cond b es (e ∷ remove_entry (is_at (nat_cmp r)) es))) (sym each.0 ∙ here)
      ∙ sym (filter-other cookie (values_of es) none)
      ∙ sym (ap (λ b. cond (not b) (e.1 ∷ filter (λ w. not (is_for cookie w)) (values_of es)) (filter (λ w. not (is_for cookie w)) (values_of es))) here)
  | inr past ↦
      ap (λ b. values_of (cond b es (e ∷ remove_entry (is_at (nat_cmp r)) es))) (sym each.0 ∙ past)
      ∙ ap (λ ws. e.1 ∷ ws) (values_of-remove cookie r es distinct.1 each.1)
      ∙ sym (ap (λ b. cond (not b) (e.1 ∷ filter (λ w. not (is_for cookie w)) (values_of es)) (filter (λ w. not (is_for cookie w)) (values_of es))) past)
]

module _ (es left : Places) (made cookie : ℕ) (w : PendingWatch) (there : lookup (nat_eq cookie) es ≡ Some w) (out : (q : ℕ) → lookup (nat_eq q) left ≡ cond (nat_eq cookie q) None (lookup (nat_eq q) es)) (distinct : IsDistinct nat_eq (keys_of left)) (h : AreRegistered es made) where
  pub watches_of-remove : watches_of left ≡ filter (λ v. not (is_for cookie v)) (watches_of es)
  watches_of-remove =
      let r = w.place.registration in
      ap values_of (in_order-taken (by_registration es) (by_registration left) r (by_registration-taken es left cookie w there out h.kept distinct))
      ∙ values_of-remove cookie r (in_order (by_registration es)) h.pending.distinct (all-entries (λ n v. is_for cookie v ≡ is_at (nat_cmp r) n) es h.kept (λ v found. elim (cases_Bool (nat_eq (cookie_of v.place.registration) cookie)) [
        | inl same ↦
            let is : w ≡ v = same_Some w v (sym there ∙ ap (λ c. lookup (nat_eq c) es) (sym (eqb-true (cookie_of v.place.registration) cookie same)) ∙ found) in
            same ∙ sym (is_at-true r v.place.registration (ap (λ (x : PendingWatch). x.place.registration) is))
        | inr other ↦ other ∙ sym (is_at-false r v.place.registration (λ e. false≢true (sym other ∙ eq-eqb (cookie_of v.place.registration) cookie (ap cookie_of (sym e) ∙ h.kept.own cookie w there))))
      ]))

  pub AreRegistered-remove : AreRegistered left made
  AreRegistered-remove = record {
    pending = subst ArePending (sym watches_of-remove) (ArePending-filter (λ v. not (is_for cookie v)) h.pending);
    kept = AreKept-taken es left cookie w there out h.kept distinct;
    before = record { each = λ q v is. h.before.each q v (still-there es left cookie w there out h.kept distinct q v is).1 };
  }

-- one moved, or several
pub AreRegistered-same : (es other : Places) (made : ℕ) → AreRegistered es made → watches_of other ≡ watches_of es → AreKept other → AreBefore made other → AreRegistered other made
AreRegistered-same es other made h same kept before = record { pending = subst ArePending (sym same) h.pending; kept = kept; before = before }

pub watches_of-moved : (cookie : ℕ) (es : Places) (w v : PendingWatch) → lookup (nat_eq cookie) es ≡ Some w → v.place.registration ≡ w.place.registration → v.fence ≡ w.fence → watches_of (set_value (nat_eq cookie) es v) ≡ watches_of es
watches_of-moved cookie es w v there same fence = ap (λ xs. values_of (in_order xs)) (by_registration-moved (nat_eq cookie) es w v there same fence)

pub AreBefore-moved : (made cookie : ℕ) (es : Places) (w v : PendingWatch) → lookup (nat_eq cookie) es ≡ Some w → v.place.registration ≡ w.place.registration → AreBefore made es → AreBefore made (set_value (nat_eq cookie) es v)
AreBefore-moved made cookie es w v there same h = record {
  each = λ q x is. elim (cases_Bool (nat_eq cookie q)) [
    | inl here ↦
        let its : v ≡ x = same_Some v x (sym (lookup-moved cookie es w v q there ∙ ap (λ b. cond b (Some v) (lookup (nat_eq q) es)) here) ∙ is) in
        let up = h.each cookie w there in
        subst (λ (y : PendingWatch). y.place.registration < numbered made 0) its (omega (arith, up, same))
    | inr other ↦ h.each q x (sym (lookup-moved cookie es w v q there ∙ ap (λ b. cond b (Some v) (lookup (nat_eq q) es)) other) ∙ is)
  ];
}

-- a fence of points waits for them
pub members_of-fence_of : (ps : List Point) → members_of (fence_of ps) ≡ ps
members_of-fence_of [] = refl
members_of-fence_of (p ∷ []) = refl
members_of-fence_of (p ∷ q ∷ ps) = refl
