use Rattle.std.proofs.Common.{List, subst}
use Rattle.resv_core.specs.declared.plan.Act.{Act}
use Rattle.resv_core.specs.Settled.{puts_of}
use Rattle.clients_core.specs.Board.{TakesIn}
use Rattle.clients_core.proofs.LastRound.{TakesIn-last}
use Rattle.clients_core.proofs.planned_tops.put_plan.Goals as goal

pub returns-then-round-gt0 : goal.returns-then-round-gt0
returns-then-round-gt0 c =
    let round = c.round-round.result in
    record {
      tops = subst (λ (acts : List Act). TakesIn (puts_of c.args.buffer acts) c.args.tops.now c.put_round.new.tops) c.round-round.ensures.acts
          (TakesIn-last c.args.buffer round.acts.now round.times c.args.tops.now c.put_round.new.tops c.if-round-gt0.true c.put_round.ensures.tops);
    }
