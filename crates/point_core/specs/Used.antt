-- The part of a table of values that is in use.
use Rattle.std.specs.Prelude.{◌≡◌, ◌≤◌, ◌-◌, ℕ, List, [], ◌∷◌, ◌++◌, zero, suc, length, replicate}
use Rattle.std.proofs.Common.{ap, sym}
use Rattle.point_core.specs.declared.context.TheConstants.{CONTEXTS}
use Rattle.point_core.specs.declared.context_values.ContextValues.TheInside.{Inside}

-- the number of values in use, with one value more in front
unfoldable pub used_with : ℕ → ℕ → ℕ
used_with value (suc later) = suc (suc later)
used_with zero zero = 0
used_with (suc value) zero = 1

-- the number of values up to the last that is not 0
unfoldable pub used_of : List ℕ → ℕ
used_of [] = 0
used_of (value ∷ values) = used_with value (used_of values)

-- a value for each context
abbrev pub AreValues : List ℕ → ℕ → Type 0
AreValues values used = (length values ≡ CONTEXTS) × (used ≤ CONTEXTS) × (used ≡ used_of values)

abbrev pub inside_of : List ℕ → Inside
inside_of values = record { values = values; used = used_of values }

pub inside_of_values : (v : Inside) → AreValues v.values v.used → inside_of v.values ≡ v
inside_of_values v h = ap (λ used. record { values = v.values; used = used }) (sym h.2)

-- a value for each context; those past the list are 0
abbrev pub padded : List ℕ → List ℕ
padded values = values ++ replicate (CONTEXTS - length values) 0

-- the values up to the last that is not 0
abbrev pub AreInUse : List ℕ → Type 0
AreInUse values = (length values ≤ CONTEXTS) × (length values ≡ used_of (padded values))
