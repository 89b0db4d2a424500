use Rattle.device_core.proofs.Said.{reach-said}
use Rattle.device_core.proofs.laws.the_reach_is_of_the_increments.Goals as goal

pub returns : goal.returns
returns c = λ history accepted. reach-said history accepted
