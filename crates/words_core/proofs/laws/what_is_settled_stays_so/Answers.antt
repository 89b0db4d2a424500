use Rattle.words_core.proofs.Staying.{common_status-stays}
use Rattle.words_core.proofs.laws.what_is_settled_stays_so.Goals as goal

pub returns : goal.returns
returns c = λ before after reach points loaded. common_status-stays loaded points
