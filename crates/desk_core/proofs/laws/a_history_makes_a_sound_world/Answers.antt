use Rattle.desk_core.proofs.Sound.{IsSound-history}
use Rattle.desk_core.proofs.laws.a_history_makes_a_sound_world.Goals as goal

pub returns : goal.returns
returns c = IsSound-history
