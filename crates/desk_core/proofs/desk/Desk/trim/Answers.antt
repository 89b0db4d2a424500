use Rattle.desk_core.proofs.Doing.{IsDone-trim}
use Rattle.desk_core.proofs.Inside.{inside-trim}
use Rattle.desk_core.proofs.desk.Desk.trim.Goals as goal

pub invariant_of-self-2 : goal.invariant_of-self-2
invariant_of-self-2 c = inside-trim c.trim.new.self c.args.name.now c.as_reach.result.now c.as_reach.ensures.value c.trim.ensures.agrees c.trim.ensures.others c.self.invariant

pub returns-clause-done : goal.returns-clause-done
returns-clause-done c = rw (← c.self.view_is) (IsDone-trim _ c.args.name.now c.as_reach.result.now c.trim.new.self c.as_reach.ensures.value c.trim.ensures.agrees c.trim.ensures.others c.trim.ensures.kept)
