-- At each exit, by what was left of the text.
use Rattle.std.proofs.Common.{sym}
use Rattle.check_core.proofs.Stages.{stage-came, stage-other}
use Rattle.check_core.proofs.stage.MatchStage.with.Goals as goal

pub returns-in-Some-strip_line-clause-next : goal.returns-in-Some-strip_line-clause-next
returns-in-Some-strip_line-clause-next c expected at =
    stage-came c.args.self expected c.args.text.now c.in-Some.left.now c.args.line.now c.in-Some-strip_line.rest.now at (sym c.in-Some.ensures.left) c.in-Some-strip_line.ensures.cases

pub returns-in-None-clause-next : goal.returns-in-None-clause-next
returns-in-None-clause-next c expected at =
    stage-other c.args.self expected c.args.text.now c.in-Some.left.now c.args.line.now at (sym c.in-Some.ensures.left) c.in-None.ensures.cases
