-- Two lists of points by rising context, read as one.
use Rattle.std.specs.Prelude.{◌≡◌, ℕ, ◌+◌, ◌<◌, ◌≤◌, List, ◌∷◌, ◌++◌, length, All}
use Rattle.point_core.specs.declared.context.TheConstants.{CONTEXTS}
use Rattle.point_core.specs.declared.entry.Point.{Point}
use Rattle.point_core.specs.Agreement.{AgreesAbove, as_entry, as_entries, HasContexts, HasRisingContexts}

-- each point is of the context or of a later one
abbrev pub AllFrom : ℕ → List Point → Type 0
AllFrom ctx ps = All (λ (p : Point). ctx ≤ p.ctx) ps

-- the first point, of a valid context, and the rest
pub record IsPartedAt (p : Point) (rest ps : List Point) : Type 0 where
  pub parts : ps ≡ p ∷ rest
  pub context : (1 ≤ p.ctx) × (p.ctx ≤ CONTEXTS)

-- p is a point of the lowest context in both lists: p and the rests agree with the whole lists
pub record IsFirstOf (p : Point) (left right ps qs : List Point) : Type 0 where
  pub agrees : (reach : List ℕ) →
      AgreesAbove reach (as_entry p ∷ (as_entries left ++ as_entries right)) (as_entries ps ++ as_entries qs)
  pub first : (ctx : ℕ) → AllFrom ctx ps → AllFrom ctx qs → ctx ≤ p.ctx
  pub later : HasRisingContexts ps → HasRisingContexts qs →
      (HasRisingContexts left × HasRisingContexts right) × (AllFrom (p.ctx + 1) left × AllFrom (p.ctx + 1) right)
  pub context : (1 ≤ p.ctx) × (p.ctx ≤ CONTEXTS)
  pub contexts : HasContexts (as_entries left) → HasContexts (as_entries right) →
      HasContexts (as_entries ps) × HasContexts (as_entries qs)
  pub shorter : length left + length right < length ps + length qs
