use Rattle.check_core.proofs.Texts.{other_line}
use Rattle.check_core.proofs.stage.strip_line.Goals as goal

pub returns-in_err-rest : goal.returns-in_err-rest
returns-in_err-rest c = record { cases = rw c.from_residual.ensures (other_line c.args.text.now c.args.line.now c.in_err-rest.ensures.cases) }
