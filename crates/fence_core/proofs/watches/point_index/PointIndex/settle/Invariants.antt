use Rattle.std.proofs.Common.{◌≡◌, ◌≤◌, true, false}
use Rattle.point_core.specs.Reach.{value_at}
use Rattle.fence_core.specs.declared.watches.point_index.WaitingPoint.{WaitingPoint as Waiting}
use Rattle.fence_core.specs.PointIndex.{holds, is_due}
use Rattle.fence_core.specs.Registered.{AreMoved}
use Rattle.fence_core.proofs.watches.point_index.PointIndex.settle.Given as goal

abbrev pub invariant-loop-index : goal.invariant-loop-index
invariant-loop-index l = record {
  moved : AreMoved l.reach l.fn.pending.entries l.fn.self l.pending.entries l.self;
  none : (k : Waiting) → k.ctx ≤ l.index → is_due k.ctx (value_at l.reach k.ctx) k ≡ true → holds l.self k ≡ false;
}
