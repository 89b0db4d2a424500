use Rattle.explore_core.proofs.Commuting.{commute}
use Rattle.explore_core.proofs.laws.independent_commands_commute.Goals as goal

pub returns : goal.returns
returns c = λ asked bounds w first second roomy within independent passes passes'. commute asked bounds w first second roomy within independent passes passes'
