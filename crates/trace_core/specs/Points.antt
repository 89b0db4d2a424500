-- Which seqnos were seen in a context.
use Rattle.std.specs.Prelude.{ℕ, ◌==◌, Bool, true, false, if◌then◌else◌}
use Rattle.trace_core.specs.declared.points.Points.{Points}
use Rattle.trace_core.specs.declared.points.Points.TheVariants.{None, One, Several}

unfoldable pub are_none : Points → Bool
are_none None = true
are_none (One n) = false
are_none Several = false

-- whether only `seqno` was seen
unfoldable pub is_only : ℕ → Points → Bool
is_only seqno None = false
is_only seqno (One n) = n == seqno
is_only seqno Several = false

-- the set after `seqno` is seen
unfoldable pub points_after : ℕ → Points → Points
points_after seqno None = One seqno
points_after seqno (One n) = if n == seqno then One n else Several
points_after seqno Several = Several
