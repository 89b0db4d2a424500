use Rattle.device_core.proofs.Answered.{IsAnswered-stands}
use Rattle.device_core.proofs.Reporting.{ReportsSums-stands}
use Rattle.device_core.proofs.Said.{ReportsWhatWasPut-stands, ReportsBuffers-stands, ReportsFences-stands}
use Rattle.device_core.proofs.Tables.{AreTrimmed-stands}
use Rattle.device_core.proofs.laws.a_device_shows_its_history.Goals as goal

pub returns-clause-sums : goal.returns-clause-sums
returns-clause-sums c = ReportsSums-stands

pub returns-clause-files : goal.returns-clause-files
returns-clause-files c = ReportsWhatWasPut-stands

pub returns-clause-buffers : goal.returns-clause-buffers
returns-clause-buffers c = ReportsBuffers-stands

pub returns-clause-fences : goal.returns-clause-fences
returns-clause-fences c = ReportsFences-stands

pub returns-clause-trimmed : goal.returns-clause-trimmed
returns-clause-trimmed c = AreTrimmed-stands

pub returns-clause-answers : goal.returns-clause-answers
returns-clause-answers c = IsAnswered-stands
