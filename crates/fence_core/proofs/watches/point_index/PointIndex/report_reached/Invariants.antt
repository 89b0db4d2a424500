use Rattle.std.proofs.Common.{◌≡◌, ◌≤◌, true}
use Rattle.point_core.specs.Reach.{value_at}
use Rattle.fence_core.specs.declared.watches.point_index.WaitingPoint.{WaitingPoint as Waiting}
use Rattle.fence_core.specs.PointIndex.{holds, is_due}
use Rattle.fence_core.specs.Reported.{IsReported, AreGathered}
use Rattle.fence_core.proofs.watches.point_index.PointIndex.report_reached.Given as goal

abbrev pub invariant-loop-index : goal.invariant-loop-index
invariant-loop-index l = record {
  gathered : AreGathered l.pending.entries l.reach l.fired.items;
  all : (k : Waiting) → k.ctx ≤ l.index → is_due k.ctx (value_at l.reach k.ctx) k ≡ true → holds l.self k ≡ true → IsReported l.pending.entries l.reach l.fired.items k.registration;
}
