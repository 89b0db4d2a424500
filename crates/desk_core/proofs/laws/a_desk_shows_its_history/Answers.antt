use Rattle.desk_core.proofs.Sums.{ReportsSums-stands}
use Rattle.desk_core.proofs.Telling.{ReportsWhatWasPut-stands, ReportsWhatIsInBuffers-stands}
use Rattle.desk_core.proofs.Firing.{ReportsWhatFires-stands}
use Rattle.desk_core.proofs.laws.a_desk_shows_its_history.Goals as goal

pub returns-clause-sums : goal.returns-clause-sums
returns-clause-sums c = ReportsSums-stands

pub returns-clause-files : goal.returns-clause-files
returns-clause-files c = ReportsWhatWasPut-stands

pub returns-clause-buffers : goal.returns-clause-buffers
returns-clause-buffers c = ReportsWhatIsInBuffers-stands

pub returns-clause-watches : goal.returns-clause-watches
returns-clause-watches c = ReportsWhatFires-stands
