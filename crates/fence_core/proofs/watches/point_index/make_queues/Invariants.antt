use Rattle.std.proofs.Common.{◌≡◌, ◌≤◌, ◌-◌, ℕ, length}
use Rattle.point_core.specs.declared.context.TheConstants.{CONTEXTS}
use Rattle.fence_core.specs.PointIndex.{queue_at}
use Rattle.fence_core.proofs.watches.point_index.make_queues.Given as goal

abbrev pub invariant-loop-alloc : goal.invariant-loop-alloc
invariant-loop-alloc l = record {
  few : length l.queues.items ≤ CONTEXTS;
  same : (c : ℕ) → queue_at l.queues.items c ≡ queue_at l.fn.queues.items c;
}

abbrev pub decreases-loop-alloc : goal.decreases-loop-alloc
decreases-loop-alloc l = l.fn.ctx - length l.queues.items
