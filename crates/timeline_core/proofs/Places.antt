-- The place of the timeline of a name.
use Rattle.std.proofs.Common.{◌≡◌, ℕ, ◌+◌, ◌-◌, ◌<◌, suc, Bool, true, false, cond, ◌||◌, refl, sym, ap, subst, ◌∙◌, List, [], ◌∷◌, length, get_or, slice_get, position, replicate, Option, None, Some, arith, true≢false, zero}
use Rattle.std.specs.Prelude.{option_map, unwrap_or}
use Rattle.std.specs.List.{position_from, AllByRecursion}
use Rattle.std.specs.Cmp.Lexicographic.{same_text, nat_list_eq_equiv}
use Rattle.std.proofs.Math.ListN.{get_or-append}
use Rattle.std.proofs.lemmas.Iterator.Adapters.{position_from-zero}
use Rattle.std.proofs.lemmas.List.{length-map}
use Rattle.std.proofs.lemmas.Option.{none-some, same_Some}
use Rattle.std.proofs.lemmas.Map.Keys.{IsDistinct-head, IsDistinct-tail}
use Rattle.point_core.specs.declared.context.TheConstants.{CONTEXTS}
use Rattle.point_core.specs.Clocks.{new_clock}
use Rattle.point_core.specs.Named.{same_name, HasDistinctNames}
use Rattle.timeline_core.specs.Timeline.{Timeline, timeline_of, own_clock, is_named, names_of, own_clocks, has_timeline, timeline_at, context_of, clocks_of, clock_named}
use Rattle.timeline_core.proofs.Lookups.{position_from-more, position_from-names_of}

-- the first timeline of that name is at the place
abbrev pub IsPlace : List Timeline → List ℕ → ℕ → Type 0
IsPlace ts name k = position_from (is_named name) 0 ts ≡ Some k

-- the place of a stored name
pub IsPlace-stored : {names : List (List ℕ)} (ts : List Timeline) (name : List ℕ) (k : ℕ) → names ≡ names_of ts → Some k ≡ position (same_name name) names → IsPlace ts name k
IsPlace-stored ts name k e found =
    sym (position_from-names_of ts name 0) ∙ sym (position_from-zero (same_name name) (names_of ts)) ∙ ap (position (same_name name)) (sym e) ∙ sym found

place_before : (o : Option ℕ) (k : ℕ) → option_map (λ j. j + 1) o ≡ Some k → (j : ℕ) × (o ≡ Some j) × (k ≡ suc j)
place_before None k e = absurd (none-some k e)
place_before (Some j) k e = (j, refl, omega (arith, same_Some (j + 1) k e))

module _ (name : List ℕ) (P : List Timeline → ℕ → Type 0)
    (here : (t : Timeline) (ts : List Timeline) → is_named name t ≡ true → P (t ∷ ts) 0)
    (there : (t : Timeline) (ts : List Timeline) (k : ℕ) → is_named name t ≡ false → IsPlace ts name k → P ts k → P (t ∷ ts) (suc k)) where
  -- a property of the first timeline of that name, which timelines before it keep
  pub at_place : (ts : List Timeline) (k : ℕ) → IsPlace ts name k → P ts k
  at_place [] k e = absurd (none-some k e)
  at_place (t ∷ ts) k e = by (at_place ts) (is_named name t) refl
    where
      by : ((j : ℕ) → IsPlace ts name j → P ts j) → (b : Bool) → is_named name t ≡ b → P (t ∷ ts) k
      by rest true is = subst (P (t ∷ ts)) (same_Some 0 k (sym (ap (λ b. cond b (Some 0) (position_from (is_named name) 1 ts)) is) ∙ e)) (here t ts is)
      by rest false isnt =
          let before = place_before (position_from (is_named name) 0 ts) k (sym (position_from-more (is_named name) 0 ts) ∙ sym (ap (λ b. cond b (Some 0) (position_from (is_named name) 1 ts)) isnt) ∙ e) in
          subst (P (t ∷ ts)) (sym before.2) (there t ts before.0 isnt before.1 (rest before.0 before.1))

pub place-within : (ts : List Timeline) (name : List ℕ) (k : ℕ) → IsPlace ts name k → k < length ts
place-within ts name k place =
    at_place name (λ us j. j < length us) (λ t us is. omega arith) (λ t us j isnt after low. omega arith) ts k place

-- a timeline of that name has a place
place_if : (b : Bool) (i : ℕ) (o : Option ℕ) → (b ≡ false → (k : ℕ) × (o ≡ Some k)) → (k : ℕ) × (cond b (Some i) o ≡ Some k)
place_if true i o rest = (i, refl)
place_if false i o rest = rest refl

pub place_from-has_timeline : (ts : List Timeline) (name : List ℕ) (i : ℕ) → has_timeline ts name ≡ true → (k : ℕ) × (position_from (is_named name) i ts ≡ Some k)
place_from-has_timeline [] name i has = absurd (true≢false (sym has))
place_from-has_timeline (t ∷ ts) name i has =
    place_if (is_named name t) i (position_from (is_named name) (i + 1) ts)
    (λ isnt. place_from-has_timeline ts name (i + 1) (sym (ap (λ b. b || has_timeline ts name) isnt) ∙ has))

pub context_of-place : (ts : List Timeline) (name : List ℕ) (k : ℕ) → IsPlace ts name k → context_of ts name ≡ k + 1
context_of-place ts name k place = ap (λ o. unwrap_or o 0) (position_from-more (is_named name) 0 ts ∙ ap (option_map (λ j. j + 1)) place)

pub clock_named-place : (ts : List Timeline) (name : List ℕ) (k : ℕ) → IsPlace ts name k → clock_named ts name ≡ get_or (own_clocks ts) k new_clock
clock_named-place ts name k place =
    let at : context_of ts name - 1 ≡ k = omega (arith, context_of-place ts name k place) in
    let low : k < length (own_clocks ts) = rw length-map (place-within ts name k place) in
    ap (λ j. get_or (clocks_of ts) j new_clock) at ∙ get_or-append (own_clocks ts) (replicate (CONTEXTS - length ts) new_clock) new_clock k low

timeline_at-place : (ts : List Timeline) (name : List ℕ) (k : ℕ) → IsPlace ts name k → timeline_at ts name ≡ Some (timeline_of name (get_or (own_clocks ts) k new_clock))
timeline_at-place ts name k place =
    at_place name (λ us j. timeline_at us name ≡ Some (timeline_of name (get_or (own_clocks us) j new_clock)))
    (λ t us is. ap (λ b. cond b (Some t) (timeline_at us name)) is ∙ ap (λ n. Some (timeline_of n (own_clock t))) (same_text t.name name (sym is)))
    (λ t us j isnt after rest. ap (λ b. cond b (Some t) (timeline_at us name)) isnt ∙ rest) ts k place

-- the clock of a timeline's context is the timeline's own
pub timeline_at-clock_named : (ts : List Timeline) (name : List ℕ) → has_timeline ts name ≡ true → timeline_at ts name ≡ Some (timeline_of name (clock_named ts name))
timeline_at-clock_named ts name has =
    let k = place_from-has_timeline ts name 0 has in
    timeline_at-place ts name k.0 k.1 ∙ ap (λ clock. Some (timeline_of name clock)) (sym (clock_named-place ts name k.0 k.1))

-- a name of no timeline differs from the name at a place
apart-place : (ts : List Timeline) (name other : List ℕ) (k : ℕ) → IsPlace ts name k → AllByRecursion (λ m. same_name other m ≡ false) (names_of ts) → same_name other name ≡ false
apart-place ts name other k place =
    at_place name (λ us j. AllByRecursion (λ m. same_name other m ≡ false) (names_of us) → same_name other name ≡ false)
    (λ t us is apart. subst (λ m. same_name other m ≡ false) (same_text t.name name (sym is)) apart.0)
    (λ t us j isnt after rest apart. rest apart.1)
    ts k place

-- if names are distinct, each timeline is at the place of its name
pub place-of : (ts : List Timeline) (k : ℕ) → k < length ts → HasDistinctNames (λ (t : Timeline). t.name) ts → (name : List ℕ) × IsPlace ts name k
place-of [] k low distinct = absurd (omega (arith, low))
place-of (t ∷ ts) zero low distinct = (t.name, ap (λ b. cond b (Some 0) (position_from (is_named t.name) 1 ts)) (nat_list_eq_equiv.refl t.name))
place-of (t ∷ ts) (suc k) low distinct =
    let rest = place-of ts k (omega (arith, low)) (IsDistinct-tail same_name t.name (names_of ts) distinct) in
    let apart = apart-place ts rest.0 t.name k rest.1 (IsDistinct-head same_name t.name (names_of ts) distinct) in (
      rest.0,
      ap (λ b. cond b (Some 0) (position_from (is_named rest.0) 1 ts)) apart
          ∙ position_from-more (is_named rest.0) 0 ts
          ∙ ap (option_map (λ j. j + 1)) rest.1
          ∙ ap Some (omega arith),
    )

pub has_timeline-place : (ts : List Timeline) (name : List ℕ) (k : ℕ) → IsPlace ts name k → has_timeline ts name ≡ true
has_timeline-place ts name k place =
    at_place name (λ us j. has_timeline us name ≡ true)
    (λ t us is. rw is refl)
    (λ t us j isnt after rest. rw isnt rest)
    ts k place

-- the name of the context at that place
pub name-place : (ts : List Timeline) (name : List ℕ) (k : ℕ) → IsPlace ts name k → option_map (λ (t : Timeline). t.name) (slice_get ts k) ≡ Some name
name-place ts name k place =
    at_place name (λ us j. option_map (λ (t : Timeline). t.name) (slice_get us j) ≡ Some name)
    (λ t us is. ap Some (same_text t.name name (sym is)))
    (λ t us j isnt after rest. rest)
    ts k place

-- there is a timeline of the name that is at a place
pub has_timeline-name : (ts : List Timeline) (k : ℕ) (name : List ℕ) → option_map (λ (t : Timeline). t.name) (slice_get ts k) ≡ Some name → has_timeline ts name ≡ true
has_timeline-name [] k name at = absurd (none-some name at)
has_timeline-name (t ∷ ts) zero name at = rw (← same_Some t.name name at, nat_list_eq_equiv.refl t.name) refl
has_timeline-name (t ∷ ts) (suc k) name at = or_true (is_named name t) (has_timeline ts name) (has_timeline-name ts k name at)
  where
    or_true : (a b : Bool) → b ≡ true → (a || b) ≡ true
    or_true true b is = refl
    or_true false b is = is
