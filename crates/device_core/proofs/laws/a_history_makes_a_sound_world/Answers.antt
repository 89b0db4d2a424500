use Rattle.device_core.proofs.Stepping.{IsSound-history}
use Rattle.device_core.proofs.laws.a_history_makes_a_sound_world.Goals as goal

pub returns : goal.returns
returns c = IsSound-history
