use Rattle.desk_core.proofs.Firing.{fired_along-once}
use Rattle.desk_core.proofs.laws.a_watch_fires_once.Goals as goal

pub returns : goal.returns
returns c history number = fired_along-once number history
