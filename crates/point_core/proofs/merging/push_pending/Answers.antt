use Rattle.std.proofs.Common.{length, length-append, [], ◌∷◌, ap, arith}
use Rattle.point_core.proofs.TwoLists.{HasMerged-push, HasMerged-skip, merged-HasMerged}
use Rattle.point_core.proofs.merging.push_pending.Goals as goal
use Rattle.point_core.proofs.merging.push_pending.Goals.{then-point-get, else-point-get}

pub loop-point-preserved : goal.loop-point-preserved
loop-point-preserved c =
    let before = c.loop-point.invariant in
    elim c.if-point-get.branch [
      | then-point-get w ↦
          let told = w.push_reserved.ensures in
          let pushed = HasMerged-push c.in-Some.point c.in-Some.ps.now c.in-Some.qs.now before.merged c.in-Some.ensures.first (omega (arith, c.get.ensures.value)) in
          let more = length-append c.loop-point.points.items (c.in-Some.point ∷ []) in
          rw w.points-is record {
            merged = rw told.items pushed;
            len = omega (arith, told.len, before.len, more, ap length told.items);
            room = omega (arith, told.capacity, before.room);
          }
      | else-point-get w ↦
          rw w.points-is record {
            merged = HasMerged-skip c.in-Some.point c.in-Some.ps.now c.in-Some.qs.now before.merged c.in-Some.ensures.first (omega (arith, c.get.ensures.value));
            len = before.len;
            room = before.room;
          }
    ]

pub returns-clause-merged : goal.returns-clause-merged
returns-clause-merged c =
    let none = c.in_default.ensures.first in
    merged-HasMerged (rw (none.0, none.1) at c.loop-point.invariant.merged)
