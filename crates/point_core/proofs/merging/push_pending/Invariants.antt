use Rattle.std.proofs.Common.{◌≡◌, ◌+◌, ◌≤◌, min, length, vec_len, vec_capacity}
use Rattle.point_core.specs.declared.context.TheConstants.{CONTEXTS}
use Rattle.point_core.proofs.TwoLists.{HasMerged}
use Rattle.point_core.proofs.merging.push_pending.Given as goal

abbrev pub invariant-loop-point : goal.invariant-loop-point
invariant-loop-point l = record {
  merged : HasMerged l.reach l.left l.right l.points.items l.lists.0.now l.lists.1.now;
  len : vec_len l.points ≡ length l.points.items;
  room : min (length l.left + length l.right) CONTEXTS ≤ vec_capacity l.points;
}

abbrev pub decreases-loop-point : goal.decreases-loop-point
decreases-loop-point l = length l.lists.0.now + length l.lists.1.now
