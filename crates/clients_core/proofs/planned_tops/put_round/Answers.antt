use Rattle.clients_core.proofs.PlansOfRounds.{puts-round_more}
use Rattle.clients_core.proofs.Topping.{TakesIn-append, TakesIn-none}
use Rattle.clients_core.proofs.planned_tops.put_round.Goals as goal

pub loop-act-init : goal.loop-act-init
loop-act-init c = TakesIn-none c.args.tops.now

pub loop-act-preserved : goal.loop-act-preserved
loop-act-preserved c =
    rw (puts-round_more c.args.buffer c.args.acts.now c.args.number c.loop-act.act-index c.act-item.result c.in_round.result c.loop-act-test.true c.act-item.is c.in_round.ensures)
    (TakesIn-append c.loop-act.invariant c.put_act.ensures.tops)
