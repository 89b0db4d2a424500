use Rattle.std.proofs.Common.{ℕ, ◌≤◌}
use Rattle.point_core.specs.Reach.{value_at}
use Rattle.resv_core.proofs.kept_tops.is_reached.Given as goal

abbrev pub invariant-loop-index : goal.invariant-loop-index
invariant-loop-index l = (ctx : ℕ) → 1 ≤ ctx → ctx ≤ l.index → value_at l.latest ctx ≤ value_at l.reach ctx
