use Rattle.std.proofs.Common.{arith}
use Rattle.resv_core.proofs.Kept.{AreTops-needless}
use Rattle.resv_core.proofs.tops.Tops.raise.Goals as goal

pub returns-else-get-point-clause-tops : goal.returns-else-get-point-clause-tops
returns-else-get-point-clause-tops c = λ reach es tell. AreTops-needless c.args.point c.args.usage tell (c.at.ensures.latest reach es tell) c.get.ensures.context.0 c.get.ensures.context.1 (omega (arith, c.get.ensures.value, c.if-get-point.false))
