use Rattle.desk_core.proofs.Telling.{ReportsWhatWasPut-stands, ReportsWhatIsInBuffers-stands}
use Rattle.desk_core.proofs.Firing.{ReportsWhatFires-stands}
use Rattle.desk_core.proofs.Accounting.{ReportsEachWatch-stands}
use Rattle.desk_core.proofs.Sums.{ReportsSums-stands}
use Rattle.desk_core.proofs.runs.run.Goals as goal

pub returns-clause-sums : goal.returns-clause-sums
returns-clause-sums c = ReportsSums-stands _ _ c.answer_each.ensures.stands

pub returns-clause-files : goal.returns-clause-files
returns-clause-files c = ReportsWhatWasPut-stands _ _ c.answer_each.ensures.stands

pub returns-clause-buffers : goal.returns-clause-buffers
returns-clause-buffers c = ReportsWhatIsInBuffers-stands _ _ c.answer_each.ensures.stands

pub returns-clause-watches : goal.returns-clause-watches
returns-clause-watches c = ReportsWhatFires-stands _ _ c.answer_each.ensures.stands

pub returns-clause-each_watch : goal.returns-clause-each_watch
returns-clause-each_watch c = ReportsEachWatch-stands _ _ _ c.answer_each.ensures.answers c.answer_each.ensures.stands
