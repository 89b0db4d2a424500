use Rattle.timeline_core.proofs.Staying.{timeline_at-run, is_closed-run, value_of-closed_run}
use Rattle.timeline_core.proofs.laws.a_closed_timeline_stays_as_it_is.Goals as goal

pub returns-clause-same : goal.returns-clause-same
returns-clause-same c = timeline_at-run

pub returns-clause-closed : goal.returns-clause-closed
returns-clause-closed c = is_closed-run

pub returns-clause-value : goal.returns-clause-value
returns-clause-value c = value_of-closed_run
