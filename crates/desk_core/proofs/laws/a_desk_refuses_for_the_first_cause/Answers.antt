use Rattle.std.proofs.Common.{sym}
use Rattle.desk_core.proofs.Answering.{Keeps-stands}
use Rattle.desk_core.proofs.Stepping.{causes-keeps}
use Rattle.desk_core.proofs.laws.a_desk_refuses_for_the_first_cause.Goals as goal

pub returns : goal.returns
returns c = λ desk history command stands. sym (causes-keeps (Keeps-stands stands) command)
