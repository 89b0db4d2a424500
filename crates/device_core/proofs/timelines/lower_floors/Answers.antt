use Rattle.std.proofs.Common.{◌∙◌}
use Rattle.device_core.specs.theorem.State.{at}
use Rattle.device_core.proofs.Floors.{lowered-all, lowered-step}
use Rattle.device_core.proofs.timelines.lower_floors.Goals as goal

pub loop-fence-preserved : goal.loop-fence-preserved
loop-fence-preserved c = record {
  left = λ q. lowered-step q c.args.fences.now c.loop-fence.fence-index _ (at c.lower_floor.new.timelines.entries q) (at c.loop-fence.timelines.entries q) _ c.loop-fence-test.true (c.lower_floor.ensures.lowered q) (c.loop-fence.invariant.left q);
  same = c.lower_floor.ensures.same ∙ c.loop-fence.invariant.same;
}

pub returns-clause-lowered : goal.returns-clause-lowered
returns-clause-lowered c = λ q. lowered-all q c.args.fences.now c.loop-fence.fence-index (at c.loop-fence.timelines.entries q) _ c.loop-fence-test.false (c.loop-fence.invariant.left q)
