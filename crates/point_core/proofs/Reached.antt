-- Entries that are reached, and entries that cover others.
use Rattle.std.proofs.Common.{◌≡◌, ℕ, ◌≤◌, ◌↔◌, Bool, true, false, ◌||◌, refl, sym, ◌∙◌, List, [], ◌∷◌, Option, None, Some, arith, All, Contains, ◌==◌, nat_le, not, ◌&&◌, inl, inr}
use Rattle.std.specs.Prelude.{IsTrue}
use Rattle.std.specs.List.{list_all}
use Rattle.std.proofs.lemmas.Bool.{and_parts, and_from, leb-true, le-leb, lt-leb, eqb-true, eq-eqb, cases_lt, cases_Bool, false≢true}
use Rattle.std.proofs.lemmas.List.Folds.{list_all-map}
use Rattle.std.proofs.lemmas.List.Elements.{All-nil, All-cons, All-head, All-tail, All-weaker, All-contains, All-contains_itself}
use Rattle.point_core.specs.declared.entry.Point.{Point}
use Rattle.point_core.specs.declared.entry.Entry.{Entry}
use Rattle.point_core.specs.Usage.{usage_number}
use Rattle.point_core.specs.Reach.{value_at, is_reached}
use Rattle.point_core.specs.Agreement.{top, AgreesAbove, as_entry, as_entries, covers, Covers, IsReached, all_reached}
use Rattle.point_core.specs.Latest.{raised_to}
use Rattle.point_core.proofs.Agreement.{AgreesAbove-raised, raised_to-top-above, top-Some}

-- if all entries are reached, no top raises the value
raised_to-IsReached : (es : List Entry) (usage ctx : ℕ) (reach : List ℕ) (t : Option ℕ) → top es usage ctx ≡ t → IsReached es usage reach → raised_to (value_at reach ctx) t ≤ value_at reach ctx
raised_to-IsReached es usage ctx reach None is reached = omega arith
raised_to-IsReached es usage ctx reach (Some p) is reached =
    let put = (top-Some es usage ctx p is).0 in
    let below = reached put.0 put.1 put.2.0 in
    let low : put.0.point.value ≤ value_at reach ctx = rw put.2.1 at below in
    let value = put.3 in
    omega arith

-- entries that agree above a reach are reached together
pub IsReached-AgreesAbove : {reach : List ℕ} {es fs : List Entry} (usage : ℕ) → AgreesAbove reach es fs → IsReached es usage reach → IsReached fs usage reach
IsReached-AgreesAbove {reach} {es} {fs} usage agrees reached = λ e among strong.
    let above = raised_to-top-above fs usage e.point.ctx (value_at reach e.point.ctx) e among (strong, refl) in
    let same = AgreesAbove-raised agrees usage e.point.ctx in
    let below = raised_to-IsReached es usage e.point.ctx reach (top es usage e.point.ctx) refl reached in
    omega arith

-- tests and propositions

abbrev passes : List ℕ → ℕ → Entry → Bool
passes reach usage e = not (nat_le (usage_number e.usage) usage) || is_reached reach e.point

passes-reached : (reach : List ℕ) (usage : ℕ) (e : Entry) → passes reach usage e ≡ true → usage_number e.usage ≤ usage → e.point.value ≤ value_at reach e.point.ctx
passes-reached reach usage e is strong = leb-true _ _ (rw (le-leb (usage_number e.usage) usage strong) at is)

reached-passes : (reach : List ℕ) (usage : ℕ) (e : Entry) → (usage_number e.usage ≤ usage → e.point.value ≤ value_at reach e.point.ctx) → passes reach usage e ≡ true
reached-passes reach usage e h = elim (cases_lt usage (usage_number e.usage)) [
  | inl weak ↦ rw (lt-leb (usage_number e.usage) usage weak) refl
  | inr strong ↦ rw (le-leb (usage_number e.usage) usage strong) (le-leb e.point.value (value_at reach e.point.ctx) (h strong))
]

list_all-All : (p : Entry → Bool) (es : List Entry) → list_all p es ≡ true → All (λ e. p e ≡ true) es
list_all-All p [] is = All-nil (λ (e : Entry). p e ≡ true)
list_all-All p (e ∷ es) is = let both = and_parts (p e) (list_all p es) is in All-cons (λ (e : Entry). p e ≡ true) e es both.0 (list_all-All p es both.1)

All-list_all : (p : Entry → Bool) (es : List Entry) → All (λ e. p e ≡ true) es → list_all p es ≡ true
All-list_all p [] all = refl
All-list_all p (e ∷ es) all = and_from (p e) (list_all p es) (All-head (λ (e : Entry). p e ≡ true) e es all) (All-list_all p es (All-tail (λ (e : Entry). p e ≡ true) e es all))

pub all_reached-IsReached : (reach : List ℕ) (usage : ℕ) (es : List Entry) → (all_reached reach usage es ≡ true) ↔ IsReached es usage reach
all_reached-IsReached reach usage es = (
  λ is e among strong. passes-reached reach usage e (All-contains (λ (e : Entry). passes reach usage e ≡ true) es e (list_all-All (passes reach usage) es is) among) strong,
  λ h. All-list_all (passes reach usage) es (All-weaker (Contains es) (λ (e : Entry). passes reach usage e ≡ true) (λ e among. reached-passes reach usage e (h e among)) es (All-contains_itself es)),
)

-- all points of a file are reached
pub all_reached-points : (reach : List ℕ) (ps : List Point) → all_reached reach 0 (as_entries ps) ≡ list_all (is_reached reach) ps
all_reached-points reach ps = list_all-map (passes reach 0) as_entry ps

same_Bool : (a b : Bool) → (a ≡ true → b ≡ true) → (b ≡ true → a ≡ true) → a ≡ b
same_Bool true b there back = sym (there refl)
same_Bool false true there back = back refl
same_Bool false false there back = refl

-- entries that agree above a reach give the test the same result
pub all_reached-AgreesAbove : {reach : List ℕ} {es fs : List Entry} (usage : ℕ) → AgreesAbove reach es fs → AgreesAbove reach fs es → all_reached reach usage es ≡ all_reached reach usage fs
all_reached-AgreesAbove {reach} {es} {fs} usage there back =
    let left = all_reached-IsReached reach usage es in
    let right = all_reached-IsReached reach usage fs in
    same_Bool _ _ (λ is. right.1 (IsReached-AgreesAbove usage there (left.0 is))) (λ is. left.1 (IsReached-AgreesAbove usage back (right.0 is)))

pub covers-Covers : (by other : Entry) → (covers by other ≡ true) ↔ Covers by other
covers-Covers by other = (
  λ is.
      let parts = and_parts ((by.point.ctx == other.point.ctx) && nat_le (usage_number by.usage) (usage_number other.usage)) (nat_le other.point.value by.point.value) is in
      let front = and_parts (by.point.ctx == other.point.ctx) (nat_le (usage_number by.usage) (usage_number other.usage)) parts.0 in
      (eqb-true _ _ front.0, leb-true _ _ front.1, leb-true _ _ parts.1),
  λ h. rw (eq-eqb _ _ h.0, le-leb _ _ h.1, le-leb _ _ h.2) refl,
)

-- each point is reached exactly when all of them pass the test
pub list_all-IsReached : (points : List Point) (reach : List ℕ) → (list_all (is_reached reach) points ≡ true) ↔ IsReached (as_entries points) 0 reach
list_all-IsReached points reach =
    let both = all_reached-IsReached reach 0 (as_entries points) in
    (λ is. both.0 (all_reached-points reach points ∙ is), λ reached. sym (all_reached-points reach points) ∙ both.1 reached)

-- a test with this meaning equals the comparison
pub is_nat_le : (b : Bool) (m n : ℕ) → (IsTrue b ↔ (m ≤ n)) → b ≡ nat_le m n
is_nat_le true m n h = sym (le-leb m n (h.0 refl))
is_nat_le false m n h = elim (cases_Bool (nat_le m n)) [
  | inl below ↦ absurd (false≢true (h.1 (leb-true m n below)))
  | inr above ↦ sym above
]
