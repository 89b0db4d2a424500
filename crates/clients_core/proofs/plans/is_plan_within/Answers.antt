use Rattle.std.proofs.Common.{◌<◌, sym, ap, ◌∙◌, arith}
use Rattle.std.specs.List.{list_all}
use Rattle.clients_core.specs.Plans.{is_within}
use Rattle.clients_core.proofs.PlansOfRounds.{within-first}
use Rattle.clients_core.proofs.plans.is_plan_within.Goals as goal

pub returns-else-round-eq0 : goal.returns-else-round-eq0
returns-else-round-eq0 c =
    let round = c.round-round.result in
    let test = is_within c.args.contexts c.args.buffers in
    let some : 0 < round.times = omega arith in
    c.are_acts_within.ensures
    ∙ sym (within-first c.args.contexts c.args.buffers round.acts.now round.times some)
    ∙ ap (list_all test) c.round-round.ensures.acts
