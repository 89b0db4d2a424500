-- A watch fires once.
use Rattle.std.proofs.Common.{◌≡◌, ◌≢◌, ℕ, zero, suc, nat_eq, Bool, true, false, not, cond, ◌||◌, ◌⊎◌, refl, sym, ap, ◌∙◌, subst, List, [], ◌∷◌, ◌++◌, filter, Option, None, Some, Contains, arith, inl, inr}
use Rattle.std.specs.List.{list_any, AllByRecursion, IsDistinct}
use Rattle.std.specs.Cmp.{nat_eq_equiv}
use Rattle.std.proofs.lemmas.Bool.{ne_eqb, false≢true}
use Rattle.std.proofs.lemmas.List.Elements.{Contains-append_left, Contains-append_right, Contains-append_cases}
use Rattle.std.proofs.lemmas.Map.Views.{list_any-from_Contains}
use Rattle.point_core.specs.declared.entry.Point.{Point}
use Rattle.point_core.specs.declared.refusal.Refusal.{Refusal}
use Rattle.fence_core.specs.Fence.{are_reached}
use Rattle.fence_core.specs.Watch.{Watch, Registry, watch_of, is_for, cookies_of, ArePending}
use Rattle.fence_core.specs.Watches.{has_watch, fires, fired_by, after_rise_to, cause_to_refuse, if_none}
use Rattle.fence_core.specs.Run.{Call, after_call, after_calls, fired_along, AreAccepted, IsLeftByAll, AreNoAddsOf}
use Rattle.fence_core.specs.Run.Call.{Add, Remove, Rise}
use Rattle.fence_core.proofs.Causes.{new-by_cause, room-by_cause}
use Rattle.fence_core.proofs.Pending.{ArePending-filter, ArePending-push, IsDistinct-cookies_filter, list_any-cookies_of, apart-any}

Contains-nil : {X : Type 0} (y : X) → Contains [] y → ⊥
Contains-nil y h = omega (arith, h.1)

Contains-single : {X : Type 0} (x y : X) → Contains (x ∷ []) y → x ≡ y
Contains-single x y (zero, low, is) = is
Contains-single x y (suc k, low, is) = absurd (omega arith)

Contains-cons_cases : {X : Type 0} (x : X) (xs : List X) (y : X) → Contains (x ∷ xs) y → (x ≡ y) ⊎ Contains xs y
Contains-cons_cases x xs y h = elim (Contains-append_cases (x ∷ []) xs y h) [
  | inl first ↦ inl (Contains-single x y first)
  | inr rest ↦ inr rest
]

kept_here : {X : Type 0} (b : Bool) (y : X) (ys : List X) → b ≡ true → Contains (cond b (y ∷ ys) ys) y
kept_here true y ys e = (0, omega arith, refl)
kept_here false y ys e = absurd (false≢true e)

kept_there : {X : Type 0} (b : Bool) (y : X) (ys : List X) (x : X) → Contains ys x → Contains (cond b (y ∷ ys) ys) x
kept_there true y ys x h = Contains-append_right (y ∷ []) ys x h
kept_there false y ys x h = h

-- what passes the test is kept
pub Contains-filter : {X : Type 0} (p : X → Bool) (xs : List X) (x : X) → Contains xs x → p x ≡ true → Contains (filter p xs) x
Contains-filter p [] x h is = absurd (Contains-nil x h)
Contains-filter p (y ∷ ys) x h is = elim (Contains-cons_cases y ys x h) [
  | inl same ↦ subst (Contains (filter p (y ∷ ys))) same (kept_here (p y) y (filter p ys) (ap p same ∙ is))
  | inr rest ↦ kept_there (p y) y (filter p ys) x (Contains-filter p ys x rest is)
]

-- what is kept was there, and passes the test
pub Contains-filtered : {X : Type 0} (p : X → Bool) (xs : List X) (x : X) → Contains (filter p xs) x → Contains xs x × (p x ≡ true)
Contains-filtered p [] x h = absurd (Contains-nil x h)
Contains-filtered {X} p (y ∷ ys) x h = by (p y) refl h (Contains-filtered p ys x)
  where
    there : Contains ys x × (p x ≡ true) → Contains (y ∷ ys) x × (p x ≡ true)
    there rest = (Contains-append_right (y ∷ []) ys x rest.0, rest.1)

    by : (b : Bool) → p y ≡ b → Contains (cond b (y ∷ filter p ys) (filter p ys)) x → (Contains (filter p ys) x → Contains ys x × (p x ≡ true)) → Contains (y ∷ ys) x × (p x ≡ true)
    by true is h rest = elim (Contains-cons_cases y (filter p ys) x h) [
      | inl same ↦ ((0, omega arith, same), ap p (sym same) ∙ is)
      | inr later ↦ there (rest later)
    ]
    by false is h rest = there (rest h)

apart-cookie : (k : ℕ) (ws : List Watch) (w : Watch) → AllByRecursion (λ y. nat_eq k y ≡ false) (cookies_of ws) → Contains ws w → nat_eq k w.cookie ≡ false
apart-cookie k [] w apart h = absurd (Contains-nil w h)
apart-cookie k (v ∷ vs) w apart h = elim (Contains-cons_cases v vs w h) [
  | inl same ↦ subst (λ (u : Watch). nat_eq k u.cookie ≡ false) same apart.0
  | inr rest ↦ apart-cookie k vs w apart.1 rest
]

or_false : (a b : Bool) → (a || b) ≡ false → (a ≡ false) × (b ≡ false)
or_false true b h = absurd (false≢true (sym h))
or_false false b h = (refl, h)

none_by : (q : Watch → Bool) (b : Bool) (v : Watch) (us : List Watch) → q v ≡ false → list_any q us ≡ false → list_any q (cond b (v ∷ us) us) ≡ false
none_by q true v us is rest = ap (λ a. a || list_any q us) is ∙ rest
none_by q false v us is rest = rest

-- if none passes a test, none that is kept does
pub list_any-filter : (q p : Watch → Bool) (ws : List Watch) → list_any q ws ≡ false → list_any q (filter p ws) ≡ false
list_any-filter q p [] h = refl
list_any-filter q p (v ∷ vs) h = let both = or_false (q v) (list_any q vs) h in none_by q (p v) v (filter p vs) both.0 (list_any-filter q p vs both.1)

-- if a watch is not kept, no watch of its cookie is
pub none-kept : (p : Watch → Bool) (ws : List Watch) (w : Watch) → IsDistinct nat_eq (cookies_of ws) → Contains ws w → p w ≡ false → list_any (is_for w.cookie) (filter p ws) ≡ false
unfolding IsDistinct
none-kept p [] w distinct h fails = refl
none-kept p (v ∷ vs) w distinct h fails = elim (Contains-cons_cases v vs w h) [
  | inl same ↦
      let apart = subst (λ (u : Watch). AllByRecursion (λ y. nat_eq u.cookie y ≡ false) (cookies_of vs)) same distinct.0 in
      ap (λ b. list_any (is_for w.cookie) (cond b (v ∷ filter p vs) (filter p vs))) (ap p same ∙ fails)
      ∙ list_any-filter (is_for w.cookie) p vs (apart-any w.cookie vs apart)
  | inr rest ↦ none_by (is_for w.cookie) (p v) v (filter p vs) (apart-cookie v.cookie vs w distinct.0 rest) (none-kept p vs w distinct.1 rest fails)
]

not-listed : (cookie : ℕ) (ws : List Watch) → list_any (is_for cookie) ws ≡ false → Contains (cookies_of ws) cookie → ⊥
not-listed cookie ws none h = false≢true (sym none ∙ sym (list_any-cookies_of cookie ws) ∙ list_any-from_Contains nat_eq_equiv cookie (cookies_of ws) h)

Contains-cookies_of : (ws : List Watch) (w : Watch) → Contains ws w → Contains (cookies_of ws) w.cookie
Contains-cookies_of [] w h = absurd (Contains-nil w h)
Contains-cookies_of (v ∷ vs) w h = elim (Contains-cons_cases v vs w h) [
  | inl same ↦ (0, omega arith, ap (λ (u : Watch). u.cookie) same)
  | inr rest ↦ Contains-append_right (v.cookie ∷ []) (cookies_of vs) w.cookie (Contains-cookies_of vs w rest)
]

none_before : (o next : Option Refusal) → if_none o next ≡ None → o ≡ None
none_before None next is = refl
none_before (Some cause) next is = absurd (cc)

module _ (cookie : ℕ) (points : List Point) where
  -- it is pending while nothing removes it, and no rise reaches all of its points
  pub Contains-after_calls : (ws : Registry) (calls : List Call) → Contains ws.pending (watch_of cookie points) → IsLeftByAll cookie points calls → Contains (after_calls ws calls).pending (watch_of cookie points)
  Contains-after_calls ws [] h left = h
  Contains-after_calls ws (Add other ps reach ∷ calls) h left = Contains-after_calls (after_call ws (Add other ps reach)) calls (Contains-append_left ws.pending (watch_of other ps ∷ []) (watch_of cookie points) h) left.1
  Contains-after_calls ws (Remove other ∷ calls) h left = Contains-after_calls (after_call ws (Remove other)) calls (Contains-filter (λ w. not (is_for other w)) ws.pending (watch_of cookie points) h (ap not (ne_eqb cookie other left.0))) left.1
  Contains-after_calls ws (Rise reach ∷ calls) h left = Contains-after_calls (after_call ws (Rise reach)) calls (Contains-filter (λ w. not (fires reach w)) ws.pending (watch_of cookie points) h (ap not left.0)) left.1

  -- so long its cookie is not fired
  pub fired_along-left : (ws : Registry) (calls : List Call) → ArePending ws.pending → Contains ws.pending (watch_of cookie points) → AreAccepted ws calls → IsLeftByAll cookie points calls → Contains (fired_along ws calls) cookie → ⊥
  fired_along-left ws [] kept h accepted left fired = Contains-nil cookie fired
  fired_along-left ws (Add other ps reach ∷ calls) kept h accepted left fired =
      let none = none_before (cause_to_refuse ws other) _ accepted.0 in
      fired_along-left (after_call ws (Add other ps reach)) calls (ArePending-push other ps kept (new-by_cause ws other none) (room-by_cause ws other none)) (Contains-append_left ws.pending (watch_of other ps ∷ []) (watch_of cookie points) h) accepted.1 left.1 fired
  fired_along-left ws (Remove other ∷ calls) kept h accepted left fired = fired_along-left (after_call ws (Remove other)) calls (ArePending-filter (λ w. not (is_for other w)) kept) (Contains-filter (λ w. not (is_for other w)) ws.pending (watch_of cookie points) h (ap not (ne_eqb cookie other left.0))) accepted.1 left.1 fired
  fired_along-left ws (Rise reach ∷ calls) kept h accepted left fired = elim (Contains-append_cases (fired_by ws reach) (fired_along (after_call ws (Rise reach)) calls) cookie fired) [
    | inl now ↦ not-listed cookie (filter (fires reach) ws.pending) (none-kept (fires reach) ws.pending (watch_of cookie points) kept.distinct h left.0) now
    | inr later ↦ fired_along-left (after_call ws (Rise reach)) calls (ArePending-filter (λ w. not (fires reach w)) kept) (Contains-filter (λ w. not (fires reach w)) ws.pending (watch_of cookie points) h (ap not left.0)) accepted.1 left.1 later
  ]

  -- the first rise that reaches all of its points fires it
  pub Contains-fired_by : (ws : Registry) (reach : List ℕ) → Contains ws.pending (watch_of cookie points) → are_reached reach points ≡ true → Contains (fired_by ws reach) cookie
  Contains-fired_by ws reach h is = Contains-cookies_of (filter (fires reach) ws.pending) (watch_of cookie points) (Contains-filter (fires reach) ws.pending (watch_of cookie points) h is)

  pub has_watch-fired : (ws : Registry) (reach : List ℕ) → ArePending ws.pending → Contains ws.pending (watch_of cookie points) → are_reached reach points ≡ true → has_watch (after_rise_to ws reach) cookie ≡ false
  has_watch-fired ws reach kept h is = none-kept (λ w. not (fires reach w)) ws.pending (watch_of cookie points) kept.distinct h (ap not is)

pub IsDistinct-fired_by : (ws : Registry) (reach : List ℕ) → ArePending ws.pending → IsDistinct nat_eq (fired_by ws reach)
IsDistinct-fired_by ws reach kept = IsDistinct-cookies_filter (fires reach) ws.pending kept.distinct

list_any-push : (cookie : ℕ) (ws : List Watch) (w : Watch) → list_any (is_for cookie) ws ≡ false → is_for cookie w ≡ false → list_any (is_for cookie) (ws ++ w ∷ []) ≡ false
list_any-push cookie [] w none is = ap (λ b. b || false) is
list_any-push cookie (v ∷ vs) w none is = let both = or_false (is_for cookie v) (list_any (is_for cookie) vs) none in ap (λ b. b || list_any (is_for cookie) (vs ++ w ∷ [])) both.0 ∙ list_any-push cookie vs w both.1 is

-- a cookie that is not pending, and not registered again, is never fired
pub fired_along-absent : (cookie : ℕ) (ws : Registry) (calls : List Call) → has_watch ws cookie ≡ false → AreNoAddsOf cookie calls → Contains (fired_along ws calls) cookie → ⊥
fired_along-absent cookie ws [] none adds fired = Contains-nil cookie fired
fired_along-absent cookie ws (Add other ps reach ∷ calls) none adds fired =
    let apart : other ≢ cookie = λ is. adds.0 (sym is) in
    fired_along-absent cookie (after_call ws (Add other ps reach)) calls (list_any-push cookie ws.pending (watch_of other ps) none (ne_eqb other cookie apart)) adds.1 fired
fired_along-absent cookie ws (Remove other ∷ calls) none adds fired = fired_along-absent cookie (after_call ws (Remove other)) calls (list_any-filter (is_for cookie) (λ w. not (is_for other w)) ws.pending none) adds.1 fired
fired_along-absent cookie ws (Rise reach ∷ calls) none adds fired = elim (Contains-append_cases (fired_by ws reach) (fired_along (after_call ws (Rise reach)) calls) cookie fired) [
  | inl now ↦ not-listed cookie (filter (fires reach) ws.pending) (list_any-filter (is_for cookie) (fires reach) ws.pending none) now
  | inr later ↦ fired_along-absent cookie (after_call ws (Rise reach)) calls (list_any-filter (is_for cookie) (λ w. not (fires reach w)) ws.pending none) adds.1 later
]
