use Rattle.point_core.specs.Reach.{value_at}
use Rattle.fence_core.specs.PointIndex.{number_due}
use Rattle.fence_core.specs.Registered.{AreMoved}
use Rattle.fence_core.proofs.watches.point_index.PointIndex.settle_context.Given as goal

abbrev pub invariant-loop : goal.invariant-loop
invariant-loop l = AreMoved l.reach l.fn.pending.entries l.fn.self l.pending.entries l.self

abbrev pub decreases-loop : goal.decreases-loop
decreases-loop l = number_due l.ctx (value_at l.reach l.ctx) l.self
