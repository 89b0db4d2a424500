use Rattle.std.proofs.Common.{None}
use Rattle.dmabuf_core.specs.Buffers.{has_buffer}
use Rattle.desk_core.proofs.Doing.{IsDone-add}
use Rattle.desk_core.proofs.Inside.{inside-add}
use Rattle.desk_core.proofs.Waiting.{found_if}
use Rattle.desk_core.proofs.desk.Desk.add.Goals as goal

pub invariant_of-self-2 : goal.invariant_of-self-2
invariant_of-self-2 c =
    let some = c.in_ok-ctx.ensures.ok_part in
    let made = rw some at c.context.ensures.made in
    inside-add c.add.new.self c.args.name.now c.as_reach-reach.result.now c.in_ok-ctx.ctx c.args.value c.args.usage c.as_reach-reach.ensures.value c.in_ok-add.ensures.agrees c.add.ensures.others made.1 c.self.invariant

pub returns-clause-done : goal.returns-clause-done
returns-clause-done c =
    let some = c.in_ok-ctx.ensures.ok_part in
    let value = rw some at c.context.ensures.value in
    let has = found_if (has_buffer c.self.inside.buffers c.args.name.now) None c.add.result _ c.add.ensures.refused c.in_ok-add.was in
    rw (← c.self.view_is)
    (IsDone-add _ c.args.name.now c.args.timeline.now c.in_ok-ctx.ctx c.args.value c.args.usage c.as_reach-reach.result.now c.add.new.self has value c.as_reach-reach.ensures.value c.in_ok-add.ensures.agrees c.add.ensures.others c.add.ensures.kept)
