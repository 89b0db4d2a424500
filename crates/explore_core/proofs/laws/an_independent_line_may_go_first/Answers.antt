use Rattle.explore_core.proofs.Moving.{go-first}
use Rattle.explore_core.proofs.laws.an_independent_line_may_go_first.Goals as goal

pub returns : goal.returns
returns c = λ asked bounds plan client step others now later may sound patient next can forward beside leads. go-first may client step patient bounds others now later next can forward sound beside leads
