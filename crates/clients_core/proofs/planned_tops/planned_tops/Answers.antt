use Rattle.std.proofs.Common.{take}
use Rattle.point_core.proofs.Agreement.{HasContexts-append}
use Rattle.resv_core.specs.Settled.{all_puts, puts_of}
use Rattle.clients_core.proofs.Topping.{flat_map-take_more}
use Rattle.clients_core.proofs.planned_tops.planned_tops.Goals as goal

pub loop-plan-preserved : goal.loop-plan-preserved
loop-plan-preserved c =
    let buffer = c.args.buffer in
    let before = all_puts buffer (take c.loop-plan.plan-index c.args.plans.now) in
    let taken = c.put_plan.ensures.tops in
    rw (flat_map-take_more (puts_of buffer) c.args.plans.now c.loop-plan.plan-index c.plan-item.result c.loop-plan-test.true c.plan-item.is)
    record {
      tops = taken.tops c.args.reach.now before c.loop-plan.invariant.tops;
      contexts = HasContexts-append before (puts_of buffer c.plan-item.result) c.loop-plan.invariant.contexts taken.contexts;
    }
