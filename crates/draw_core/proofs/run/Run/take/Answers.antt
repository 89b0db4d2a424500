use Rattle.std.proofs.Common.{arith}
use Rattle.draw_core.proofs.Lines.{HasRun-answered, HasRun-past}
use Rattle.draw_core.proofs.run.Run.take.Goals as goal

pub returns-then-line-self-clause-run : goal.returns-then-line-self-clause-run
returns-then-line-self-clause-run g c done ran =
    let now = c.args.self.now in
    HasRun-past now.window done now.desk now.history.refused (record { number = c.args.line.now.number; body = c.args.body.now }) (omega (arith, c.if-line-self.true)) ran

pub returns-then-has-clause-run : goal.returns-then-has-clause-run
returns-then-has-clause-run g c done ran =
    let now = c.args.self.now in
    HasRun-answered now.window done now.desk _ now.history.refused _ (record { number = c.args.line.now.number; body = c.args.body.now }) (omega (arith, c.if-line-self.false)) c.take_drawn.ensures.answered ran

pub returns-else-has-clause-run : goal.returns-else-has-clause-run
returns-else-has-clause-run g c done ran =
    let now = c.args.self.now in
    HasRun-answered now.window done now.desk _ now.history.refused _ (record { number = c.args.line.now.number; body = c.args.body.now }) (omega (arith, c.if-line-self.false)) c.take_undrawn.ensures.answered ran
