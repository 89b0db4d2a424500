use Rattle.std.proofs.Common.{sym}
use Rattle.std.proofs.lemmas.Bool.{false≢true}
use Rattle.explore_core.proofs.visit.Visit.leave.Goals as goal

pub returns : goal.returns
returns c = λ now fresh. absurd (false≢true (sym fresh))
