use Rattle.std.proofs.Common.{◌∙◌}
use Rattle.desk_core.proofs.Doing.{IsDone-timeline}
use Rattle.desk_core.proofs.Inside.{inside-timeline}
use Rattle.desk_core.proofs.desk.Desk.timeline.Goals as goal

pub invariant_of-self-2 : goal.invariant_of-self-2
invariant_of-self-2 c = inside-timeline c.create.new.self c.args.name.now c.in_ok-ctx.ensures.added c.create.ensures.same_reach c.self.invariant

pub returns-clause-done : goal.returns-clause-done
returns-clause-done c =
    rw (← c.self.view_is)
    (IsDone-timeline _ c.args.name.now c.create.new.self c.from.result c.in_ok-ctx.ensures.added c.in_ok-ctx.ensures.timelines.room (c.from.ensures ∙ c.number.ensures.value ∙ c.in_ok-ctx.ensures.number))
