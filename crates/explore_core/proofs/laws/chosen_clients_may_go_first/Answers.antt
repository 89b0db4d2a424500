use Rattle.explore_core.proofs.Persistent.{stand-still}
use Rattle.explore_core.proofs.laws.chosen_clients_may_go_first.Goals as goal

pub returns : goal.returns
returns c = λ asked bounds plan now later choice others may calm kept stops unchosen leads. stand-still may calm kept stops others later unchosen leads
