use Rattle.desk_core.proofs.Accounting.{ReportsEachWatch-stands}
use Rattle.desk_core.proofs.laws.each_watch_fires_or_is_removed_or_pending.Goals as goal

pub returns : goal.returns
returns c = ReportsEachWatch-stands
