use Rattle.std.proofs.Common.{Ok, Err}
use Rattle.desk_core.proofs.Answering.{Answers-outcome, HasHistory-outcome, OnRefused-outcome}
use Rattle.desk_core.proofs.desk.Desk.step.Goals as goal

pub returns-in-Ok-clause-answer : goal.returns-in-Ok-clause-answer
returns-in-Ok-clause-answer c = Answers-outcome c.args.self.now c.outcome.new.self c.args.command (Ok c.in-Ok.answer) c.in-Ok.ensures.refused c.in-Ok.ensures.sure c.in-Ok.ensures.done

pub returns-in-Ok-clause-stands : goal.returns-in-Ok-clause-stands
returns-in-Ok-clause-stands c = HasHistory-outcome c.args.self.now c.outcome.new.self c.args.command (Ok c.in-Ok.answer) c.in-Ok.ensures.refused tt c.in-Ok.ensures.done

pub returns-in-Ok-clause-unchanged : goal.returns-in-Ok-clause-unchanged
returns-in-Ok-clause-unchanged c = OnRefused-outcome c.args.self.now c.outcome.new.self c.args.command (Ok c.in-Ok.answer) tt c.in-Ok.ensures.done

pub returns-in-Err-clause-answer : goal.returns-in-Err-clause-answer
returns-in-Err-clause-answer c = Answers-outcome c.args.self.now c.outcome.new.self c.args.command (Err c.in-Err.refusal) c.in-Err.ensures.refused c.in-Err.ensures.sure tt
