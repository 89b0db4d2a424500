-- The value of each context, and the points that it has reached.
use Rattle.std.specs.Prelude.{ℕ, ◌-◌, ◌^◌, ◌≤◌, Bool, nat_le, max, map, List, slice_index, slice_set}
use Rattle.std.specs.List.{zip}
use Rattle.point_core.specs.declared.entry.Point.{Point}

-- The value of a context from 1 to CONTEXTS. Past them this is 0, and 0, which is no context, would have the value of
-- context 1.
abbrev pub value_at : List ℕ → ℕ → ℕ
value_at reach ctx = slice_index reach (ctx - 1)

-- the reach with the value of one context changed
abbrev pub with_value : List ℕ → ℕ → ℕ → List ℕ
with_value reach ctx value = slice_set reach (ctx - 1) value

-- the greatest value that there can be
abbrev pub GREATEST : ℕ
GREATEST = 2 ^ 64 - 1

-- the reach once the context is closed: every point of it is reached
abbrev pub shut_value : List ℕ → ℕ → List ℕ
shut_value reach ctx = with_value reach ctx GREATEST

-- the reach, with the point reached
abbrev pub reaching : List ℕ → Point → List ℕ
reaching reach p = with_value reach p.ctx (max (value_at reach p.ctx) p.value)

-- the greater value of each context
abbrev pub later_values : List ℕ → List ℕ → List ℕ
later_values reach other = map (λ (both : ℕ × ℕ). max both.0 both.1) (zip reach other)

-- no value is below the other's
pub record IsAtLeast (reach other : List ℕ) : Type 0 where
  pub values : (ctx : ℕ) → value_at other ctx ≤ value_at reach ctx

-- the value of the point's context has reached it
abbrev pub is_reached : List ℕ → Point → Bool
is_reached reach p = nat_le p.value (value_at reach p.ctx)
