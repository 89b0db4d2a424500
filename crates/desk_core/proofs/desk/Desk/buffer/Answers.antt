use Rattle.desk_core.proofs.Doing.{IsDone-buffer}
use Rattle.desk_core.proofs.Inside.{inside-buffer}
use Rattle.desk_core.proofs.desk.Desk.buffer.Goals as goal

pub invariant_of-self-2 : goal.invariant_of-self-2
invariant_of-self-2 c = inside-buffer c.create.new.self c.args.name.now c.in_ok-create.ensures.last c.self.invariant

pub returns-clause-done : goal.returns-clause-done
returns-clause-done c = rw (← c.self.view_is) (IsDone-buffer _ c.args.name.now c.create.new.self c.in_ok-create.ensures.last c.create.ensures.kept)
