-- The name of a script's timeline shows its timeline of the trace, and its context.
use Rattle.std.proofs.Common.{◌≡◌, ℕ, true≢false, not, refl, sym, ap, subst, List, [], ◌∷◌, ◌++◌, drop, get_or, Option, None, Some}
use Rattle.std.specs.Prelude.{◌==◌, decimal}
use Rattle.std.specs.List.{list_all}
use Rattle.std.proofs.lemmas.Bool.{and_parts}
use Rattle.std.proofs.lemmas.Fmt.{decimal_injective}
use Rattle.trace_core.specs.declared.fence_event.TimelineKey.{TimelineKey}
use Rattle.trace_script.specs.Names.{AreLanesApart, AreNames, HasNoPoint, IsContext, lane_name, name_at}

no-point-after : (b : ℕ) (bytes : List ℕ) → HasNoPoint (b ∷ bytes) → HasNoPoint bytes
no-point-after b bytes plain = (and_parts (not (b == 46)) (list_all (λ x. not (x == 46)) bytes) plain).1

has-point : (base rest : List ℕ) → HasNoPoint (base ++ 46 ∷ rest) → ⊥
has-point [] rest plain = true≢false (sym plain)
has-point (b ∷ base) rest plain = has-point base rest (no-point-after b (base ++ 46 ∷ rest) plain)

-- texts without a point, with a point after each, are those before the first point
same-parts : (base other rest more : List ℕ) → HasNoPoint base → HasNoPoint other → base ++ 46 ∷ rest ≡ other ++ 46 ∷ more → (base ≡ other) × (rest ≡ more)
same-parts [] [] rest more plain too is = (refl, ap (drop 1) is)
same-parts [] (c ∷ other) rest more plain too is = absurd (has-point [] other (subst (λ (l : List ℕ). HasNoPoint (get_or l 0 0 ∷ other)) (sym is) too))
same-parts (b ∷ base) [] rest more plain too is = absurd (has-point [] base (subst (λ (l : List ℕ). HasNoPoint (get_or l 0 0 ∷ base)) is plain))
same-parts (b ∷ base) (c ∷ other) rest more plain too is =
    let same = same-parts base other rest more (no-point-after b base plain) (no-point-after c other too) (ap (drop 1) is) in
    ((λ j. get_or (is j) 0 0 ∷ same.0 j), same.1)

same-lane : (base other : List ℕ) (context another : Option ℕ) → HasNoPoint base → HasNoPoint other → IsContext context → IsContext another → lane_name base context ≡ lane_name other another → (base ≡ other) × (context ≡ another)
same-lane base other None None plain too fits also is = (is, refl)
same-lane base other None (Some d) plain too fits also is = absurd (has-point other (decimal d) (subst HasNoPoint is plain))
same-lane base other (Some c) None plain too fits also is = absurd (has-point base (decimal c) (subst HasNoPoint (sym is) too))
same-lane base other (Some c) (Some d) plain too fits also is =
    let same = same-parts base other (decimal c) (decimal d) plain too is in
    (same.0, ap (λ (n : ℕ). Some n) (decimal_injective c d fits also same.1))

pub lanes-apart : (names : List (TimelineKey × List ℕ)) (taken : List (List ℕ)) → AreNames names taken → AreLanesApart names
lanes-apart names taken h key other base own named too context another fits also is =
    let same = same-lane base own context another (h.plain key base named) (h.plain other own too) fits also is in
    (h.apart key other own (subst (λ n. name_at names key ≡ Some n) same.0 named) too, same.1)
