use Rattle.desk_core.specs.theorem.History.{world_of}
use Rattle.desk_core.proofs.Answering.{Keeps-stands}
use Rattle.explore_core.proofs.Looking.{alike-looks}
use Rattle.explore_core.proofs.Staying.{alike-ever}
use Rattle.explore_core.proofs.laws.desks_that_look_alike_answer_alike.Goals as goal

pub returns-clause-alike : goal.returns-clause-alike
returns-clause-alike c = λ asked d e history other stands also looks. alike-looks (Keeps-stands stands) (Keeps-stands also) looks

pub returns-clause-ever : goal.returns-clause-ever
returns-clause-ever c = λ asked d e history other cs stands also looks asks.
    let k = Keeps-stands stands in
    alike-ever (world_of history) (world_of other) cs k.sound (alike-looks k (Keeps-stands also) looks) asks
