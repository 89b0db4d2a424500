use Rattle.desk_core.proofs.Doing.{IsDone-fence}
use Rattle.desk_core.proofs.Inside.{inside-fence}
use Rattle.desk_core.proofs.desk.Desk.fence.Goals as goal

pub invariant_of-self-2 : goal.invariant_of-self-2
invariant_of-self-2 c =
    let some = c.in_ok-ctx.ensures.ok_part in
    let made = rw some at c.context.ensures.made in
    inside-fence c.create.new.self c.args.name.now c.in_ok-ctx.ctx c.args.value c.in_ok-create.ensures.last made.1 c.self.invariant

pub returns-clause-done : goal.returns-clause-done
returns-clause-done c =
    let some = c.in_ok-ctx.ensures.ok_part in
    let value = rw some at c.context.ensures.value in
    rw (← c.self.view_is)
    (IsDone-fence _ c.args.name.now c.args.timeline.now c.create.new.self c.in_ok-ctx.ctx c.args.value c.in_ok-create.ensures.last value)
