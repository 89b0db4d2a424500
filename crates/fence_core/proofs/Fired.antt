-- The watches that a rise fires, reported by registration.
use Rattle.std.proofs.Common.{◌≡◌, ℕ, Bool, true, false, not, cond, ◌||◌, nat_eq, refl, sym, ap, ◌∙◌, subst, List, [], ◌∷◌, ◌++◌, map, filter, Option, None, Some, inl, inr}
use Rattle.std.specs.List.{list_any, IsDistinct, AllByRecursion}
use Rattle.std.specs.List.Sorted.{IsStrictlySortedBy}
use Rattle.std.specs.Map.{keys_of, values_of}
use Rattle.std.specs.BTreeMap.{is_at}
use Rattle.std.specs.Ordering.{nat_cmp}
use Rattle.std.specs.declared.cmp.Ordering.TheVariants.{Less}
use Rattle.std.specs.Cmp.{nat_eq_equiv}
use Rattle.std.proofs.lemmas.Bool.{cases_Bool, false≢true}
use Rattle.std.proofs.lemmas.Cmp.{nat_cmp_total, eq_by_cmp_equiv}
use Rattle.std.proofs.lemmas.Option.{same_Some, none-some}
use Rattle.std.proofs.lemmas.Map.Keys.{IsDistinct-from_sorted}
use Rattle.std.proofs.lemmas.Map.Entries.{lookup-filter-values, option_filter}
use Rattle.point_core.specs.Reach.{value_at}
use Rattle.fence_core.specs.declared.watches.point_index.WaitingPoint.{WaitingPoint}
use Rattle.fence_core.specs.declared.watches.point_index.point_queue.Standing.{Standing}
use Rattle.fence_core.specs.PointIndex.{holds, is_due}
use Rattle.fence_core.specs.Registered.{AreKept, IsIndexed}
use Rattle.fence_core.specs.Pending.{Places, found, by_registration, in_order, watches_of}
use Rattle.fence_core.proofs.InOrder.{is_at-true, is_at-is, same_lists, ordered-in_order}
use Rattle.fence_core.proofs.ByCookie.{at-by_registration}
use Rattle.fence_core.proofs.Indexed.{fires-due}
use Rattle.fence_core.specs.Watch.{Watch, is_for, cookies_of}
use Rattle.fence_core.specs.Watches.{fires}
use Rattle.fence_core.specs.Reported.{at, cookie_if_fires, with_cookies, IsReported, AreOnlyFiring, AreGathered, Fires}

-- the cookies of the watches that fire, by registration
reported : List ℕ → List (ℕ × Watch) → List (ℕ × ℕ)
reported reach es = map (λ (e : ℕ × Watch). (e.0, e.1.cookie)) (filter (λ e. fires reach e.1) es)

cookie : Option Watch → Option ℕ
cookie None = None
cookie (Some w) = Some w.cookie

at-map : (es : List (ℕ × Watch)) (r : ℕ) → at (map (λ (e : ℕ × Watch). (e.0, e.1.cookie)) es) r ≡ cookie (at es r)
unfolding cookie
at-map [] r = refl
at-map (e ∷ es) r = by (is_at (nat_cmp r) e.0) (at-map es r)
  where
    by : (b : Bool) → at (map (λ (e : ℕ × Watch). (e.0, e.1.cookie)) es) r ≡ cookie (at es r) → cond b (Some e.1.cookie) (at (map (λ (e : ℕ × Watch). (e.0, e.1.cookie)) es) r) ≡ cookie (cond b (Some e.1) (at es r))
    by true rest = refl
    by false rest = rest

cookie-filter : (reach : List ℕ) (o : Option Watch) → cookie (option_filter (fires reach) o) ≡ cookie_if_fires reach o
unfolding cookie
cookie-filter reach None = refl
cookie-filter reach (Some w) = by (fires reach w)
  where
    by : (b : Bool) → cookie (cond b (Some w) None) ≡ cond b (Some w.cookie) None
    by true = refl
    by false = refl

at-reported : (reach : List ℕ) (es : List (ℕ × Watch)) (r : ℕ) → IsStrictlySortedBy nat_cmp (keys_of es) → at (reported reach es) r ≡ cookie_if_fires reach (at es r)
unfolding reported
at-reported reach es r ordered =
    at-map (filter (λ e. fires reach e.1) es) r
    ∙ ap cookie (lookup-filter-values (eq_by_cmp_equiv nat_cmp_total) (fires reach) r es (IsDistinct-from_sorted nat_cmp (keys_of es) ordered))
    ∙ cookie-filter reach (at es r)

AllByRecursion-reported : (P : ℕ → Type 0) (reach : List ℕ) (es : List (ℕ × Watch)) → AllByRecursion P (keys_of es) → AllByRecursion P (keys_of (reported reach es))
unfolding reported
AllByRecursion-reported P reach [] all = all
AllByRecursion-reported P reach (e ∷ es) all = by (fires reach e.1) (AllByRecursion-reported P reach es all.1)
  where
    by : (b : Bool) → AllByRecursion P (keys_of (reported reach es)) → AllByRecursion P (keys_of (map (λ (e : ℕ × Watch). (e.0, e.1.cookie)) (cond b (e ∷ filter (λ e. fires reach e.1) es) (filter (λ e. fires reach e.1) es))))
    by true rest = (all.0, rest)
    by false rest = rest

ordered-reported : (reach : List ℕ) (es : List (ℕ × Watch)) → IsStrictlySortedBy nat_cmp (keys_of es) → IsStrictlySortedBy nat_cmp (keys_of (reported reach es))
unfolding reported IsStrictlySortedBy
ordered-reported reach [] h = h
ordered-reported reach (e ∷ es) h = by (fires reach e.1) (AllByRecursion-reported (λ y. nat_cmp e.0 y ≡ Less) reach es h.0) (ordered-reported reach es h.1)
  where
    by : (b : Bool) → AllByRecursion (λ y. nat_cmp e.0 y ≡ Less) (keys_of (reported reach es)) → IsStrictlySortedBy nat_cmp (keys_of (reported reach es)) → IsStrictlySortedBy nat_cmp (keys_of (map (λ (e : ℕ × Watch). (e.0, e.1.cookie)) (cond b (e ∷ filter (λ e. fires reach e.1) es) (filter (λ e. fires reach e.1) es))))
    by true first rest = (first, rest)
    by false first rest = rest

values-reported : (reach : List ℕ) (es : List (ℕ × Watch)) → values_of (reported reach es) ≡ cookies_of (filter (fires reach) (values_of es))
unfolding reported
values-reported reach [] = refl
values-reported reach (e ∷ es) = by (fires reach e.1) (values-reported reach es)
  where
    by : (b : Bool) → values_of (reported reach es) ≡ cookies_of (filter (fires reach) (values_of es)) → values_of (map (λ (e : ℕ × Watch). (e.0, e.1.cookie)) (cond b (e ∷ filter (λ e. fires reach e.1) es) (filter (λ e. fires reach e.1) es))) ≡ cookies_of (cond b (e.1 ∷ filter (fires reach) (values_of es)) (filter (fires reach) (values_of es)))
    by true rest = ap (λ cs. e.1.cookie ∷ cs) rest
    by false rest = rest

-- if each registration was reported, the cookies stand by registration
pub keys_of-with_cookies : (fired : List ℕ) → keys_of (with_cookies fired) ≡ fired
keys_of-with_cookies [] = refl
keys_of-with_cookies (r ∷ fired) = ap (λ rs. r ∷ rs) (keys_of-with_cookies fired)

values-IsReported : (reach : List ℕ) (es : Places) (fired : List ℕ) → AreKept es → IsStrictlySortedBy nat_cmp fired → ((r : ℕ) → IsReported es reach fired r) → values_of (with_cookies fired) ≡ cookies_of (filter (fires reach) (watches_of es))
values-IsReported reach es fired kept rising all =
    let ws = in_order (by_registration es) in
    let ordered = ordered-in_order (by_registration es) in
    ap values_of (same_lists (with_cookies fired) (reported reach ws) (subst (IsStrictlySortedBy nat_cmp) (sym (keys_of-with_cookies fired)) rising) (ordered-reported reach ws ordered) (λ r. all r ∙ ap (cookie_if_fires reach) (sym (at-by_registration es r kept)) ∙ sym (at-reported reach ws r ordered)))
    ∙ values-reported reach ws

-- if no watch was reported that doesn't fire, and each that fires was, each was reported
pub IsReported-all : (reach : List ℕ) (es : Places) (fired : List ℕ) (r : ℕ) → AreOnlyFiring es reach fired → ((w : Watch) → found es r ≡ Some w → fires reach w ≡ true → IsReported es reach fired r) → IsReported es reach fired r
IsReported-all reach es fired r some all = by (at (with_cookies fired) r) refl
  where
    by : (o : Option ℕ) → at (with_cookies fired) r ≡ o → IsReported es reach fired r
    by (Some c) is = is ∙ sym (some r c is)
    by None is = from (found es r) refl
      where
        from : (p : Option Watch) → found es r ≡ p → IsReported es reach fired r
        from None none = is ∙ sym (ap (cookie_if_fires reach) none)
        from (Some w) there = elim (cases_Bool (fires reach w)) [
          | inl fired_it ↦ all w there fired_it
          | inr not_it ↦ is ∙ sym (ap (cookie_if_fires reach) there ∙ ap (λ b. cond b (Some w.cookie) None) not_it)
        ]

-- what is reported of the points that are due is the cookies of the watches that fire
pub values-fired : (reach : List ℕ) (es : Places) (index : List (List Standing)) (fired : List ℕ) → AreKept es → IsIndexed es index → AreGathered es reach fired → ((k : WaitingPoint) → is_due k.ctx (value_at reach k.ctx) k ≡ true → holds index k ≡ true → IsReported es reach fired k.registration) → values_of (with_cookies fired) ≡ cookies_of (filter (fires reach) (watches_of es))
values-fired reach es index fired kept h gathered all =
    values-IsReported reach es fired kept gathered.rising (λ r. IsReported-all reach es fired r gathered.only_firing (λ w is fired_it.
    let k = fires-due es index reach r w h is fired_it in
    subst (IsReported es reach fired) k.1 (all k.0 k.3 k.2)))

none-gathered : (reach : List ℕ) (es : Places) → AreGathered es reach []
unfolding IsStrictlySortedBy
none-gathered reach es = record { rising = tt; only_firing = λ r cookie there. absurd (none-some cookie there) }

pub AreGathered-none : (reach : List ℕ) (es : Places) (fired : List ℕ) → fired ≡ [] → AreGathered es reach fired
AreGathered-none reach es fired is = subst (λ rs. AreGathered es reach rs) (sym is) (none-gathered reach es)

-- if no point is due, no watch fires
pub none-due : (reach : List ℕ) (es : Places) (index : List (List Standing)) → AreKept es → IsIndexed es index → ((k : WaitingPoint) → holds index k ≡ true → is_due k.ctx (value_at reach k.ctx) k ≡ false) → cookies_of (filter (fires reach) (watches_of es)) ≡ []
unfolding IsStrictlySortedBy
none-due reach es index kept h none =
    sym (values-fired reach es index [] kept h (none-gathered reach es) (λ k due there. absurd (false≢true (sym (none k there) ∙ due))))

none-of : (reach : List ℕ) (w : Watch) (ws : List Watch) → cookies_of (filter (fires reach) (w ∷ ws)) ≡ [] → (fires reach w ≡ false) × (cookies_of (filter (fires reach) ws) ≡ [])
none-of reach w ws none = by (fires reach w) refl
  where
    by : (b : Bool) → fires reach w ≡ b → (fires reach w ≡ false) × (cookies_of (filter (fires reach) ws) ≡ [])
    by true fired = absurd (cc)
    by false not_it = (not_it, sym (ap (λ b. cookies_of (cond b (w ∷ filter (fires reach) ws) (filter (fires reach) ws))) not_it) ∙ none)

pub all-stay : (reach : List ℕ) (ws : List Watch) → cookies_of (filter (fires reach) ws) ≡ [] → filter (λ w. not (fires reach w)) ws ≡ ws
all-stay reach [] none = refl
all-stay reach (w ∷ ws) none =
    let parts = none-of reach w ws none in
    ap (λ b. cond (not b) (w ∷ filter (λ v. not (fires reach v)) ws) (filter (λ v. not (fires reach v)) ws)) parts.0
    ∙ ap (λ vs. w ∷ vs) (all-stay reach ws parts.1)

pub none-fires : (reach : List ℕ) (ws : List Watch) → cookies_of (filter (fires reach) ws) ≡ [] → list_any (fires reach) ws ≡ false
none-fires reach [] none = refl
none-fires reach (w ∷ ws) none =
    let parts = none-of reach w ws none in
    ap (λ b. b || list_any (fires reach) ws) parts.0 ∙ none-fires reach ws parts.1

-- a watch that fires is among those whose cookies are reported
pub Fires-some : (reach : List ℕ) (es : Places) → AreKept es → Fires es reach → cookies_of (filter (fires reach) (watches_of es)) ≡ [] → ⊥
Fires-some reach es kept f none = by (in_order (by_registration es)) (at-by_registration es f.registration kept ∙ f.pending) none
  where
    by : (fs : List (ℕ × Watch)) → at fs f.registration ≡ Some f.watch → cookies_of (filter (fires reach) (values_of fs)) ≡ [] → ⊥
    by [] is none = none-some f.watch is
    by (e ∷ fs) is none = elim (cases_Bool (is_at (nat_cmp f.registration) e.0)) [
      | inl here ↦
          let same = same_Some e.1 f.watch (sym (ap (λ b. cond b (Some e.1) (at fs f.registration)) here) ∙ is) in
          let fired = ap (fires reach) same ∙ f.fires in
          let reported = sym (ap (λ b. cookies_of (cond b (e.1 ∷ filter (fires reach) (values_of fs)) (filter (fires reach) (values_of fs)))) fired) ∙ none in
          absurd (cc)
      | inr past ↦ on (fires reach e.1) none (by fs (sym (ap (λ b. cond b (Some e.1) (at fs f.registration)) past) ∙ is))
    ]
      where
        on : (b : Bool) → cookies_of (cond b (e.1 ∷ filter (fires reach) (values_of fs)) (filter (fires reach) (values_of fs))) ≡ [] → (cookies_of (filter (fires reach) (values_of fs)) ≡ [] → ⊥) → ⊥
        on true none rest = absurd (cc)
        on false none rest = rest none

-- what a list of cookies takes out, one after another
pub without_watches-none : (ws : List Watch) → filter (λ (w : Watch). not (list_any (nat_eq w.cookie) [])) ws ≡ ws
without_watches-none [] = refl
without_watches-none (w ∷ ws) = ap (λ vs. w ∷ vs) (without_watches-none ws)

pub without_watches-push : (cookies : List ℕ) (c : ℕ) (ws : List Watch) → filter (λ w. not (is_for c w)) (filter (λ (w : Watch). not (list_any (nat_eq w.cookie) cookies)) ws) ≡ filter (λ (w : Watch). not (list_any (nat_eq w.cookie) (cookies ++ c ∷ []))) ws
without_watches-push cookies c [] = refl
without_watches-push cookies c (w ∷ ws) =
    by (list_any (nat_eq w.cookie) cookies) (without_watches-push cookies c ws)
    ∙ ap (λ b. cond (not b) (w ∷ filter (λ (w : Watch). not (list_any (nat_eq w.cookie) (cookies ++ c ∷ []))) ws) (filter (λ (w : Watch). not (list_any (nat_eq w.cookie) (cookies ++ c ∷ []))) ws)) (sym (any-push (nat_eq w.cookie) cookies c))
  where
    any-push : (test : ℕ → Bool) (xs : List ℕ) (x : ℕ) → list_any test (xs ++ x ∷ []) ≡ (list_any test xs || test x)
    any-push test [] x = or-false (test x)
      where
        or-false : (a : Bool) → (a || false) ≡ a
        or-false true = refl
        or-false false = refl
    any-push test (y ∷ xs) x = ap (λ b. test y || b) (any-push test xs x) ∙ or-assoc (test y) (list_any test xs) (test x)
      where
        or-assoc : (a b c : Bool) → (a || (b || c)) ≡ ((a || b) || c)
        or-assoc true b c = refl
        or-assoc false b c = refl

    by : (b : Bool) → filter (λ w. not (is_for c w)) (filter (λ (w : Watch). not (list_any (nat_eq w.cookie) cookies)) ws) ≡ filter (λ (w : Watch). not (list_any (nat_eq w.cookie) (cookies ++ c ∷ []))) ws → filter (λ w. not (is_for c w)) (cond (not b) (w ∷ filter (λ (w : Watch). not (list_any (nat_eq w.cookie) cookies)) ws) (filter (λ (w : Watch). not (list_any (nat_eq w.cookie) cookies)) ws)) ≡ cond (not (b || is_for c w)) (w ∷ filter (λ (w : Watch). not (list_any (nat_eq w.cookie) (cookies ++ c ∷ []))) ws) (filter (λ (w : Watch). not (list_any (nat_eq w.cookie) (cookies ++ c ∷ []))) ws)
    by true rest = rest
    by false rest = on (is_for c w)
      where
        on : (d : Bool) → cond (not d) (w ∷ filter (λ w. not (is_for c w)) (filter (λ (w : Watch). not (list_any (nat_eq w.cookie) cookies)) ws)) (filter (λ w. not (is_for c w)) (filter (λ (w : Watch). not (list_any (nat_eq w.cookie) cookies)) ws)) ≡ cond (not d) (w ∷ filter (λ (w : Watch). not (list_any (nat_eq w.cookie) (cookies ++ c ∷ []))) ws) (filter (λ (w : Watch). not (list_any (nat_eq w.cookie) (cookies ++ c ∷ []))) ws)
        on true = rest
        on false = ap (λ vs. w ∷ vs) rest

-- the cookie of a watch is among those of the watches that fire exactly if it fires
any-fires : (reach : List ℕ) (ws : List Watch) (c : ℕ) → AllByRecursion (λ y. nat_eq c y ≡ false) (cookies_of ws) → list_any (nat_eq c) (cookies_of (filter (fires reach) ws)) ≡ false
any-fires reach [] c apart = refl
any-fires reach (w ∷ ws) c apart = by (fires reach w) (any-fires reach ws c apart.1)
  where
    by : (b : Bool) → list_any (nat_eq c) (cookies_of (filter (fires reach) ws)) ≡ false → list_any (nat_eq c) (cookies_of (cond b (w ∷ filter (fires reach) ws) (filter (fires reach) ws))) ≡ false
    by true rest = ap (λ b. b || list_any (nat_eq c) (cookies_of (filter (fires reach) ws))) apart.0 ∙ rest
    by false rest = rest

-- a list of cookies that has one more, which no watch has, takes out the same
filter-more : (c : ℕ) (cookies : List ℕ) (ws : List Watch) → AllByRecursion (λ y. nat_eq c y ≡ false) (cookies_of ws) → filter (λ (w : Watch). not (list_any (nat_eq w.cookie) (c ∷ cookies))) ws ≡ filter (λ (w : Watch). not (list_any (nat_eq w.cookie) cookies)) ws
filter-more c cookies [] apart = refl
filter-more c cookies (w ∷ ws) apart =
    ap (λ vs. cond (not (nat_eq w.cookie c || list_any (nat_eq w.cookie) cookies)) (w ∷ vs) vs) (filter-more c cookies ws apart.1)
    ∙ ap (λ b. cond (not (b || list_any (nat_eq w.cookie) cookies)) (w ∷ filter (λ (w : Watch). not (list_any (nat_eq w.cookie) cookies)) ws) (filter (λ (w : Watch). not (list_any (nat_eq w.cookie) cookies)) ws)) (nat_eq_equiv.symm w.cookie c ∙ apart.0)

pub without_fired : (reach : List ℕ) (ws : List Watch) → IsDistinct nat_eq (cookies_of ws) → filter (λ (w : Watch). not (list_any (nat_eq w.cookie) (cookies_of (filter (fires reach) ws)))) ws ≡ filter (λ w. not (fires reach w)) ws
unfolding IsDistinct
without_fired reach [] distinct = refl
without_fired reach (w ∷ ws) distinct = by (fires reach w) (without_fired reach ws distinct.1)
  where
    fired : List ℕ
    fired = cookies_of (filter (fires reach) ws)

    by : (b : Bool) → filter (λ (v : Watch). not (list_any (nat_eq v.cookie) fired)) ws ≡ filter (λ v. not (fires reach v)) ws → filter (λ (v : Watch). not (list_any (nat_eq v.cookie) (cookies_of (cond b (w ∷ filter (fires reach) ws) (filter (fires reach) ws))))) (w ∷ ws) ≡ cond (not b) (w ∷ filter (λ w. not (fires reach w)) ws) (filter (λ w. not (fires reach w)) ws)
    by true rest =
        ap (λ b. cond (not (b || list_any (nat_eq w.cookie) fired)) (w ∷ filter (λ (v : Watch). not (list_any (nat_eq v.cookie) (w.cookie ∷ fired))) ws) (filter (λ (v : Watch). not (list_any (nat_eq v.cookie) (w.cookie ∷ fired))) ws)) (nat_eq_equiv.refl w.cookie)
        ∙ filter-more w.cookie fired ws distinct.0 ∙ rest
    by false rest =
        ap (λ b. cond (not b) (w ∷ filter (λ (v : Watch). not (list_any (nat_eq v.cookie) fired)) ws) (filter (λ (v : Watch). not (list_any (nat_eq v.cookie) fired)) ws)) (any-fires reach ws w.cookie distinct.0)
        ∙ ap (λ vs. w ∷ vs) rest

-- of those that don't fire none does
pub none-left : (reach : List ℕ) (ws : List Watch) → list_any (fires reach) (filter (λ w. not (fires reach w)) ws) ≡ false
none-left reach [] = refl
none-left reach (w ∷ ws) = by (fires reach w) refl (none-left reach ws)
  where
    by : (b : Bool) → fires reach w ≡ b → list_any (fires reach) (filter (λ w. not (fires reach w)) ws) ≡ false → list_any (fires reach) (cond (not b) (w ∷ filter (λ w. not (fires reach w)) ws) (filter (λ w. not (fires reach w)) ws)) ≡ false
    by true is rest = rest
    by false is rest = ap (λ b. b || list_any (fires reach) (filter (λ w. not (fires reach w)) ws)) is ∙ rest

-- a watch that does not fire was reported rightly
pub reported-none : (es : Places) (reach : List ℕ) (fired : List ℕ) (r : ℕ) → AreOnlyFiring es reach fired → cookie_if_fires reach (found es r) ≡ None → IsReported es reach fired r
reported-none es reach fired r only none = by (at (with_cookies fired) r) refl
  where
    by : (o : Option ℕ) → at (with_cookies fired) r ≡ o → IsReported es reach fired r
    by None is = is ∙ sym none
    by (Some c) is = absurd (none-some c (sym none ∙ only r c is))

-- one more watch that fires
module _ (es : Places) (reach : List ℕ) (old new : List ℕ) (r : ℕ) (w : Watch) (only : AreOnlyFiring es reach old) (there : found es r ≡ Some w) (fired : fires reach w ≡ true) (put : (q : ℕ) → at (with_cookies new) q ≡ cond (is_at (nat_cmp r) q) (Some w.cookie) (at (with_cookies old) q)) where
  its : cookie_if_fires reach (found es r) ≡ Some w.cookie
  its = ap (cookie_if_fires reach) there ∙ ap (λ b. cond b (Some w.cookie) None) fired

  pub reported-put : IsReported es reach new r
  reported-put = put r ∙ ap (λ b. cond b (Some w.cookie) (at (with_cookies old) r)) (is_at-true r r refl) ∙ sym its

  pub reported-still : (q : ℕ) → IsReported es reach old q → IsReported es reach new q
  reported-still q was = elim (cases_Bool (is_at (nat_cmp r) q)) [
    | inl here ↦ subst (IsReported es reach new) (is_at-is r q here) reported-put
    | inr past ↦ put q ∙ ap (λ b. cond b (Some w.cookie) (at (with_cookies old) q)) past ∙ was
  ]

  pub only-put : AreOnlyFiring es reach new
  only-put q c is = elim (cases_Bool (is_at (nat_cmp r) q)) [
    | inl here ↦ sym (subst (IsReported es reach new) (is_at-is r q here) reported-put) ∙ is
    | inr past ↦ only q c (sym (put q ∙ ap (λ b. cond b (Some w.cookie) (at (with_cookies old) q)) past) ∙ is)
  ]
