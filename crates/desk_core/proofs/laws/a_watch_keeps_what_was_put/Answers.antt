use Rattle.desk_core.proofs.Firing.{pending_after-watch, pending_after-left}
use Rattle.desk_core.proofs.laws.a_watch_keeps_what_was_put.Goals as goal

pub returns-clause-registered : goal.returns-clause-registered
returns-clause-registered c = pending_after-watch

pub returns-clause-kept : goal.returns-clause-kept
returns-clause-kept c = pending_after-left
