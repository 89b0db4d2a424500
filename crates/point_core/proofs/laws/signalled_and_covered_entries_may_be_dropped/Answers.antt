use Rattle.point_core.proofs.Agreement.{AgreesAbove-signalled, AgreesAbove-covered}
use Rattle.point_core.proofs.laws.signalled_and_covered_entries_may_be_dropped.Goals as goal

pub returns-clause-signalled : goal.returns-clause-signalled
returns-clause-signalled c = AgreesAbove-signalled

pub returns-clause-covered : goal.returns-clause-covered
returns-clause-covered c = AgreesAbove-covered
