use Rattle.resv_core.proofs.Runs.{AgreesAbove-all_added, AgreesAbove-same_added, AgreesAbove-run}
use Rattle.resv_core.proofs.laws.a_table_agrees_with_all_that_was_added.Goals as goal

pub returns-clause-agrees : goal.returns-clause-agrees
returns-clause-agrees c = AgreesAbove-all_added

pub returns-clause-same : goal.returns-clause-same
returns-clause-same c = AgreesAbove-same_added

pub returns-clause-since : goal.returns-clause-since
returns-clause-since c = AgreesAbove-run
