-- Lists by rising number: the same where the same is found; one more, one taken out, and any list put in order.
use Rattle.std.proofs.Common.{◌≡◌, ◌≢◌, ℕ, ◌<◌, suc, Bool, true, false, cond, ◌||◌, nat_eq, refl, sym, ap, ◌∙◌, subst, List, [], ◌∷◌, ◌++◌, length, None, Some, arith, inl, inr}
use Rattle.std.specs.List.{list_any, IsDistinct, AllByRecursion}
use Rattle.std.specs.List.Sorted.{IsStrictlySortedBy}
use Rattle.std.specs.Map.{keys_of, values_of, lookup, remove_entry}
use Rattle.std.specs.BTreeMap.{is_at, insert_entry}
use Rattle.std.specs.Ordering.{nat_cmp, is_eq, ordering_reverse, match_ordering}
use Rattle.std.specs.declared.cmp.Ordering.{Ordering}
use Rattle.std.specs.declared.cmp.Ordering.TheVariants.{Less, Equal, Greater}
use Rattle.std.specs.Cmp.{nat_eq_equiv}
use Rattle.std.proofs.lemmas.Bool.{cases_Bool, eqb-true, eq-eqb}
use Rattle.std.proofs.lemmas.Bool.Decides.{nat_tests}
use Rattle.std.proofs.lemmas.Cmp.{nat_cmp_total, eq_by_cmp_equiv}
use Rattle.std.proofs.lemmas.Option.{same_Some, none-some}
use Rattle.std.proofs.lemmas.Map.{lookup-remove_entry}
use Rattle.std.proofs.lemmas.Map.Keys.{IsDistinct-from_sorted}
use Rattle.fence_core.specs.Reported.{at}
use Rattle.fence_core.specs.Pending.{in_order}
use Rattle.fence_core.proofs.PointIndex.{equal-nat, is_eq-nat_cmp, less-nat}

pub is_at-true : (r q : ℕ) → r ≡ q → is_at (nat_cmp r) q ≡ true
is_at-true r q is = is_eq-nat_cmp r q ∙ eq-eqb r q is

pub is_at-false : (r q : ℕ) → r ≢ q → is_at (nat_cmp r) q ≡ false
is_at-false r q other = is_eq-nat_cmp r q ∙ grind (arith, nat_tests, other)

pub is_at-is : (r q : ℕ) → is_at (nat_cmp r) q ≡ true → r ≡ q
is_at-is r q h = eqb-true r q (sym (is_eq-nat_cmp r q) ∙ h)

pub at-All : {X : Type 0} (P : ℕ → Type 0) (es : List (ℕ × X)) (r : ℕ) (w : X) → AllByRecursion P (keys_of es) → at es r ≡ Some w → P r
at-All P [] r w all is = absurd (none-some w is)
at-All P (e ∷ es) r w all is = elim (cases_Bool (is_at (nat_cmp r) e.0)) [
  | inl here ↦ subst P (sym (is_at-is r e.0 here)) all.0
  | inr past ↦ at-All P es r w all.1 (sym (ap (λ b. cond b (Some e.1) (at es r)) past) ∙ is)
]

-- a later registration is another
apart : {X : Type 0} (r : ℕ) (e : ℕ × X) → nat_cmp e.0 r ≡ Less → is_at (nat_cmp r) e.0 ≡ false
apart r e less = let below = less-nat e.0 r less in is_at-false r e.0 (λ is. omega arith)

-- one more, of the greatest registration
pub greater : (made r : ℕ) → r < made → nat_cmp made r ≡ Greater
greater made r low = grind (arith, nat_tests)

pub less : (r made : ℕ) → r < made → nat_cmp r made ≡ Less
less r made low = grind (arith, nat_tests)

pub insert_entry-last : {X : Type 0} (es : List (ℕ × X)) (made : ℕ) (w : X) → AllByRecursion (λ r. r < made) (keys_of es) → insert_entry nat_cmp es made w ≡ es ++ (made, w) ∷ []
insert_entry-last [] made w low = refl
insert_entry-last (e ∷ es) made w low =
    ap (λ o. match_ordering o ((made, w) ∷ e ∷ es) ((e.0, w) ∷ es) (e ∷ insert_entry nat_cmp es made w)) (greater made e.0 low.0)
    ∙ ap (λ xs. e ∷ xs) (insert_entry-last es made w low.1)

at-below : {X : Type 0} (es : List (ℕ × X)) (r : ℕ) → AllByRecursion (λ y. nat_cmp r y ≡ Less) (keys_of es) → at es r ≡ None
at-below [] r low = refl
at-below (e ∷ es) r low = ap (λ o. cond (is_eq o) (Some e.1) (at es r)) low.0 ∙ at-below es r low.1

All-less : (a b : ℕ) (ks : List ℕ) → nat_cmp a b ≡ Less → AllByRecursion (λ y. nat_cmp b y ≡ Less) ks → AllByRecursion (λ y. nat_cmp a y ≡ Less) ks
All-less a b [] less all = all
All-less a b (k ∷ ks) less all = (nat_cmp_total.trans a b k less all.0, All-less a b ks less all.1)

at-head : {X : Type 0} (e : ℕ × X) (es : List (ℕ × X)) → at (e ∷ es) e.0 ≡ Some e.1
at-head e es = ap (λ b. cond b (Some e.1) (at es e.0)) (is_at-true e.0 e.0 refl)

less_from : (b a : ℕ) → nat_cmp a b ≡ Greater → nat_cmp b a ≡ Less
less_from b a greater = nat_cmp_total.antisymm b a ∙ ap ordering_reverse greater

-- two lists by rising numbers in which the same is found are the same
pub same_lists : {X : Type 0} (xs ys : List (ℕ × X)) → IsStrictlySortedBy nat_cmp (keys_of xs) → IsStrictlySortedBy nat_cmp (keys_of ys) → ((r : ℕ) → at xs r ≡ at ys r) → xs ≡ ys
unfolding IsStrictlySortedBy
same_lists [] [] g h same = refl
same_lists [] (y ∷ ys) g h same = absurd (none-some y.1 (same y.0 ∙ at-head y ys))
same_lists (x ∷ xs) [] g h same = absurd (none-some x.1 (sym (same x.0) ∙ at-head x xs))
same_lists (x ∷ xs) (y ∷ ys) g h same = by (nat_cmp x.0 y.0) refl (same_lists xs ys g.1 h.1)
  where
    later : x.0 ≡ y.0 → (r : ℕ) → at xs r ≡ at ys r
    later is r = elim (cases_Bool (is_at (nat_cmp r) x.0)) [
      | inl here ↦
          let at_x = is_at-is r x.0 here in
          at-below xs r (subst (λ n. AllByRecursion (λ y. nat_cmp n y ≡ Less) (keys_of xs)) (sym at_x) g.0)
          ∙ sym (at-below ys r (subst (λ n. AllByRecursion (λ y. nat_cmp n y ≡ Less) (keys_of ys)) (sym (at_x ∙ is)) h.0))
      | inr past ↦
          sym (ap (λ b. cond b (Some x.1) (at xs r)) past) ∙ same r
          ∙ ap (λ b. cond b (Some y.1) (at ys r)) (sym (ap (λ n. is_at (nat_cmp r) n) is) ∙ past)
    ]

    by : (o : Ordering) → nat_cmp x.0 y.0 ≡ o → (((r : ℕ) → at xs r ≡ at ys r) → xs ≡ ys) → x ∷ xs ≡ y ∷ ys
    by Less less rest = absurd (none-some x.1 (sym (at-below (y ∷ ys) x.0 (less, All-less x.0 y.0 (keys_of ys) less h.0)) ∙ sym (same x.0) ∙ at-head x xs))
    by Equal equal rest =
        let is = equal-nat x.0 y.0 equal in
        let value = same_Some x.1 y.1 (sym (at-head x xs) ∙ same x.0 ∙ ap (at (y ∷ ys)) is ∙ at-head y ys) in
        ap (λ n. (n, x.1) ∷ xs) is ∙ ap (λ v. (y.0, v) ∷ xs) value ∙ ap (λ zs. y ∷ zs) (rest (later is))
    by Greater greater rest =
        let less = less_from y.0 x.0 greater in
        absurd (none-some y.1 (sym (at-below (x ∷ xs) y.0 (less, All-less y.0 x.0 (keys_of xs) less g.0)) ∙ same y.0 ∙ at-head y ys))

turned : (q r : ℕ) → is_at (nat_cmp q) r ≡ is_at (nat_cmp r) q
turned q r = is_eq-nat_cmp q r ∙ nat_eq_equiv.symm q r ∙ sym (is_eq-nat_cmp r q)

-- one more
pub at-insert : {X : Type 0} (es : List (ℕ × X)) (r : ℕ) (v : X) (q : ℕ) → at (insert_entry nat_cmp es r v) q ≡ cond (is_at (nat_cmp r) q) (Some v) (at es q)
at-insert [] r v q = ap (λ b. cond b (Some v) None) (turned q r)
at-insert (e ∷ es) r v q = by (nat_cmp r e.0) refl (at-insert es r v q)
  where
    by : (o : Ordering) → nat_cmp r e.0 ≡ o → at (insert_entry nat_cmp es r v) q ≡ cond (is_at (nat_cmp r) q) (Some v) (at es q) → at (match_ordering o ((r, v) ∷ e ∷ es) ((e.0, v) ∷ es) (e ∷ insert_entry nat_cmp es r v)) q ≡ cond (is_at (nat_cmp r) q) (Some v) (at (e ∷ es) q)
    by Less less rest = ap (λ b. cond b (Some v) (at (e ∷ es) q)) (turned q r)
    by Equal equal rest = elim (cases_Bool (is_at (nat_cmp q) e.0)) [
      | inl here ↦
          ap (λ b. cond b (Some v) (at es q)) here
          ∙ sym (ap (λ b. cond b (Some v) (at (e ∷ es) q)) (is_at-true r q (equal-nat r e.0 equal ∙ sym (is_at-is q e.0 here))))
      | inr past ↦
          let apart : is_at (nat_cmp r) q ≡ false = sym (turned q r) ∙ ap (λ n. is_at (nat_cmp q) n) (equal-nat r e.0 equal) ∙ past in
          ap (λ b. cond b (Some v) (at es q)) past
          ∙ sym (ap (λ b. cond b (Some e.1) (at es q)) past)
          ∙ sym (ap (λ b. cond b (Some v) (at (e ∷ es) q)) apart)
    ]
    by Greater greater rest = elim (cases_Bool (is_at (nat_cmp q) e.0)) [
      | inl here ↦
          let apart : is_at (nat_cmp r) q ≡ false = ap (λ n. is_eq (nat_cmp r n)) (is_at-is q e.0 here) ∙ ap is_eq greater in
          ap (λ b. cond b (Some e.1) (at (insert_entry nat_cmp es r v) q)) here
          ∙ sym (ap (λ b. cond b (Some e.1) (at es q)) here)
          ∙ sym (ap (λ b. cond b (Some v) (at (e ∷ es) q)) apart)
      | inr past ↦
          ap (λ b. cond b (Some e.1) (at (insert_entry nat_cmp es r v) q)) past
          ∙ rest
          ∙ ap (λ o. cond (is_at (nat_cmp r) q) (Some v) o) (sym (ap (λ b. cond b (Some e.1) (at es q)) past))
    ]

pub All-insert : {X : Type 0} (P : ℕ → Type 0) (es : List (ℕ × X)) (r : ℕ) (v : X) → AllByRecursion P (keys_of es) → P r → AllByRecursion P (keys_of (insert_entry nat_cmp es r v))
All-insert P [] r v all own = (own, tt)
All-insert P (e ∷ es) r v all own = by (nat_cmp r e.0) (All-insert P es r v all.1 own)
  where
    by : (o : Ordering) → AllByRecursion P (keys_of (insert_entry nat_cmp es r v)) → AllByRecursion P (keys_of (match_ordering o ((r, v) ∷ e ∷ es) ((e.0, v) ∷ es) (e ∷ insert_entry nat_cmp es r v)))
    by Less rest = (own, all)
    by Equal rest = all
    by Greater rest = (all.0, rest)

pub ordered-insert : {X : Type 0} (es : List (ℕ × X)) (r : ℕ) (v : X) → IsStrictlySortedBy nat_cmp (keys_of es) → IsStrictlySortedBy nat_cmp (keys_of (insert_entry nat_cmp es r v))
unfolding IsStrictlySortedBy
ordered-insert [] r v h = (tt, tt)
ordered-insert (e ∷ es) r v h = by (nat_cmp r e.0) refl (ordered-insert es r v h.1)
  where
    by : (o : Ordering) → nat_cmp r e.0 ≡ o → IsStrictlySortedBy nat_cmp (keys_of (insert_entry nat_cmp es r v)) → IsStrictlySortedBy nat_cmp (keys_of (match_ordering o ((r, v) ∷ e ∷ es) ((e.0, v) ∷ es) (e ∷ insert_entry nat_cmp es r v)))
    by Less less rest = ((less, All-less r e.0 (keys_of es) less h.0), h)
    by Equal equal rest = h
    by Greater greater rest = (All-insert (λ y. nat_cmp e.0 y ≡ Less) es r v h.0 (less_from e.0 r greater), rest)

-- one taken out
All-remove : {X : Type 0} (P : ℕ → Type 0) (test : ℕ → Bool) (es : List (ℕ × X)) → AllByRecursion P (keys_of es) → AllByRecursion P (keys_of (remove_entry test es))
All-remove P test [] all = all
All-remove P test (e ∷ es) all = by (test e.0) (All-remove P test es all.1)
  where
    by : (b : Bool) → AllByRecursion P (keys_of (remove_entry test es)) → AllByRecursion P (keys_of (cond b es (e ∷ remove_entry test es)))
    by true rest = all.1
    by false rest = (all.0, rest)

ordered-remove : {X : Type 0} (test : ℕ → Bool) (es : List (ℕ × X)) → IsStrictlySortedBy nat_cmp (keys_of es) → IsStrictlySortedBy nat_cmp (keys_of (remove_entry test es))
unfolding IsStrictlySortedBy
ordered-remove test [] h = h
ordered-remove test (e ∷ es) h = by (test e.0) (ordered-remove test es h.1)
  where
    by : (b : Bool) → IsStrictlySortedBy nat_cmp (keys_of (remove_entry test es)) → IsStrictlySortedBy nat_cmp (keys_of (cond b es (e ∷ remove_entry test es)))
    by true rest = h.1
    by false rest = (All-remove (λ y. nat_cmp e.0 y ≡ Less) test es h.0, rest)

at-remove : {X : Type 0} (es : List (ℕ × X)) (r q : ℕ) → IsStrictlySortedBy nat_cmp (keys_of es) → at (remove_entry (is_at (nat_cmp r)) es) q ≡ cond (is_at (nat_cmp r) q) None (at es q)
at-remove es r q ordered = lookup-remove_entry (eq_by_cmp_equiv nat_cmp_total) (is_at (nat_cmp r)) (λ x y passes. ap (λ n. is_at (nat_cmp n) y) (is_at-is r x passes)) q es (IsDistinct-from_sorted nat_cmp (keys_of es) ordered)

-- put in order
pub ordered-in_order : {X : Type 0} (es : List (ℕ × X)) → IsStrictlySortedBy nat_cmp (keys_of (in_order es))
unfolding IsStrictlySortedBy
ordered-in_order [] = tt
ordered-in_order (e ∷ es) = ordered-insert (in_order es) e.0 e.1 (ordered-in_order es)

pub at-in_order : {X : Type 0} (es : List (ℕ × X)) (q : ℕ) → at (in_order es) q ≡ lookup (nat_eq q) es
at-in_order [] q = refl
at-in_order (e ∷ es) q =
    at-insert (in_order es) e.0 e.1 q
    ∙ ap (λ b. cond b (Some e.1) (at (in_order es) q)) (sym (turned q e.0) ∙ is_eq-nat_cmp q e.0)
    ∙ ap (λ o. cond (nat_eq q e.0) (Some e.1) o) (at-in_order es q)

length-insert : {X : Type 0} (es : List (ℕ × X)) (r : ℕ) (v : X) → at es r ≡ None → length (insert_entry nat_cmp es r v) ≡ suc (length es)
length-insert [] r v none = refl
length-insert (e ∷ es) r v none = by (nat_cmp r e.0) refl (length-insert es r v)
  where
    by : (o : Ordering) → nat_cmp r e.0 ≡ o → (at es r ≡ None → length (insert_entry nat_cmp es r v) ≡ suc (length es)) → length (match_ordering o ((r, v) ∷ e ∷ es) ((e.0, v) ∷ es) (e ∷ insert_entry nat_cmp es r v)) ≡ suc (suc (length es))
    by Less less rest = refl
    by Equal equal rest = absurd (none-some e.1 (sym none ∙ ap (λ o. cond (is_eq o) (Some e.1) (at es r)) equal))
    by Greater greater rest = ap suc (rest (sym (ap (λ o. cond (is_eq o) (Some e.1) (at es r)) greater) ∙ none))

pub lookup-apart : {X : Type 0} (k : ℕ) (es : List (ℕ × X)) → AllByRecursion (λ y. nat_eq k y ≡ false) (keys_of es) → lookup (nat_eq k) es ≡ None
lookup-apart k [] apart = refl
lookup-apart k (e ∷ es) apart = ap (λ b. cond b (Some e.1) (lookup (nat_eq k) es)) apart.0 ∙ lookup-apart k es apart.1

pub length-in_order : {X : Type 0} (es : List (ℕ × X)) → IsDistinct nat_eq (keys_of es) → length (in_order es) ≡ length es
unfolding IsDistinct
length-in_order [] distinct = refl
length-in_order (e ∷ es) distinct =
    length-insert (in_order es) e.0 e.1 (at-in_order es e.0 ∙ lookup-apart e.0 es distinct.0)
    ∙ ap suc (length-in_order es distinct.1)

-- the list in order, with one more and without one
pub in_order-put : {X : Type 0} (es more : List (ℕ × X)) (r : ℕ) (v : X) → ((q : ℕ) → lookup (nat_eq q) more ≡ cond (nat_eq r q) (Some v) (lookup (nat_eq q) es)) → in_order more ≡ insert_entry nat_cmp (in_order es) r v
in_order-put es more r v put = same_lists (in_order more) (insert_entry nat_cmp (in_order es) r v) (ordered-in_order more) (ordered-insert (in_order es) r v (ordered-in_order es)) (λ q.
    at-in_order more q ∙ put q
    ∙ ap (λ b. cond b (Some v) (lookup (nat_eq q) es)) (sym (is_eq-nat_cmp r q))
    ∙ ap (λ o. cond (is_at (nat_cmp r) q) (Some v) o) (sym (at-in_order es q))
    ∙ sym (at-insert (in_order es) r v q))

pub in_order-taken : {X : Type 0} (es left : List (ℕ × X)) (r : ℕ) → ((q : ℕ) → lookup (nat_eq q) left ≡ cond (nat_eq r q) None (lookup (nat_eq q) es)) → in_order left ≡ remove_entry (is_at (nat_cmp r)) (in_order es)
in_order-taken es left r taken = same_lists (in_order left) (remove_entry (is_at (nat_cmp r)) (in_order es)) (ordered-in_order left) (ordered-remove (is_at (nat_cmp r)) (in_order es) (ordered-in_order es)) (λ q.
    at-in_order left q ∙ taken q
    ∙ ap (λ b. cond b None (lookup (nat_eq q) es)) (sym (is_eq-nat_cmp r q))
    ∙ ap (λ o. cond (is_at (nat_cmp r) q) None o) (sym (at-in_order es q))
    ∙ sym (at-remove (in_order es) r q (ordered-in_order es)))

-- what holds of all that is found holds of all
pub all-at : {X : Type 0} (P : ℕ → X → Type 0) (es : List (ℕ × X)) → IsStrictlySortedBy nat_cmp (keys_of es) → ((r : ℕ) (x : X) → at es r ≡ Some x → P r x) → AllByRecursion (λ (e : ℕ × X). P e.0 e.1) es
unfolding IsStrictlySortedBy
all-at P [] ordered h = tt
all-at P (e ∷ es) ordered h = (
  h e.0 e.1 (at-head e es),
  all-at P es ordered.1 (λ r x is. h r x (ap (λ b. cond b (Some e.1) (at es r)) (apart r e (at-All (λ y. nat_cmp e.0 y ≡ Less) es r x ordered.0 is)) ∙ is)),
)

pub all-keys : {X : Type 0} (P : ℕ → Type 0) (es : List (ℕ × X)) → AllByRecursion (λ (e : ℕ × X). P e.0) es → AllByRecursion P (keys_of es)
all-keys P [] h = tt
all-keys P (e ∷ es) h = (h.0, all-keys P es h.1)

pub none-any : {X : Type 0} (test : X → Bool) (es : List (ℕ × X)) → AllByRecursion (λ (e : ℕ × X). test e.1 ≡ false) es → list_any test (values_of es) ≡ false
none-any test [] h = refl
none-any test (e ∷ es) h = ap (λ b. b || list_any test (values_of es)) h.0 ∙ none-any test es h.1

-- if no watch passes the test, none that is found does
pub at-none : {X : Type 0} (test : X → Bool) (es : List (ℕ × X)) (r : ℕ) (w : X) → list_any test (values_of es) ≡ false → at es r ≡ Some w → test w ≡ false
at-none test [] r w none is = absurd (none-some w is)
at-none test (e ∷ es) r w none is = elim (cases_Bool (is_at (nat_cmp r) e.0)) [
  | inl here ↦ ap test (sym (same_Some e.1 w (sym (ap (λ b. cond b (Some e.1) (at es r)) here) ∙ is))) ∙ (or_none (test e.1) (list_any test (values_of es)) none).0
  | inr past ↦ at-none test es r w (or_none (test e.1) (list_any test (values_of es)) none).1 (sym (ap (λ b. cond b (Some e.1) (at es r)) past) ∙ is)
]
  where
    or_none : (a b : Bool) → (a || b) ≡ false → (a ≡ false) × (b ≡ false)
    or_none true b h = absurd (cc)
    or_none false b h = (refl, h)
