-- At each exit, by the stage.
use Rattle.std.proofs.Common.{subst}
use Rattle.check_core.specs.Stage.{IsAt}
use Rattle.check_core.proofs.Stages.{came-all, differs-now, differs-asks}
use Rattle.check_core.proofs.stage.MatchStage.finding.Goals as goal

pub returns-else-place-text-clause-difference : goal.returns-else-place-text-clause-difference
returns-else-place-text-clause-difference c expected at =
    let text = c.args.text.now in
    came-all c.in-Came.place expected text (subst (λ s. IsAt s expected text) c.in-Came.is at) c.if-place-text.false

pub returns-in-Differs-clause-asked : goal.returns-in-Differs-clause-asked
returns-in-Differs-clause-asked c expected at =
    let text = c.args.text.now in
    differs-asks expected text (subst (λ s. IsAt s expected text) c.in-Differs.is at)

pub returns-in-Differs-clause-difference : goal.returns-in-Differs-clause-difference
returns-in-Differs-clause-difference c expected at =
    let text = c.args.text.now in
    differs-now expected text (subst (λ s. IsAt s expected text) c.in-Differs.is at)
