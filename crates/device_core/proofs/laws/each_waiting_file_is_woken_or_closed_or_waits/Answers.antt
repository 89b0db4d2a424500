use Rattle.device_core.proofs.Counting.{ReportsNumbers-run, ReportsEachWaking-run}
use Rattle.device_core.proofs.laws.each_waiting_file_is_woken_or_closed_or_waits.Goals as goal

pub returns-clause-numbers : goal.returns-clause-numbers
returns-clause-numbers c = ReportsNumbers-run

pub returns-clause-wakings : goal.returns-clause-wakings
returns-clause-wakings c = ReportsEachWaking-run
