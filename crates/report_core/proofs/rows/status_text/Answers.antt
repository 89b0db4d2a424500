use Rattle.report_core.proofs.Statuses.{text-Active, text-Signalled, text-Cancelled}
use Rattle.report_core.proofs.rows.status_text.Goals as goal

pub returns-in-Active-clause-text : goal.returns-in-Active-clause-text
returns-in-Active-clause-text c = rw c.in-Active.is text-Active

pub returns-in-Signalled-clause-text : goal.returns-in-Signalled-clause-text
returns-in-Signalled-clause-text c = rw c.in-Signalled.is text-Signalled

pub returns-in-Cancelled-clause-text : goal.returns-in-Cancelled-clause-text
returns-in-Cancelled-clause-text c = rw c.in-Cancelled.is text-Cancelled
