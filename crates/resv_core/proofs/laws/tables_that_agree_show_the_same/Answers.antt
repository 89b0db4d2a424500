use Rattle.point_core.proofs.Agreement.{AgreesAbove-sym}
use Rattle.point_core.proofs.Reached.{IsReached-AgreesAbove}
use Rattle.resv_core.proofs.Runs.{rows_of-AgreesAbove}
use Rattle.resv_core.proofs.laws.tables_that_agree_show_the_same.Goals as goal

pub returns-clause-table : goal.returns-clause-table
returns-clause-table c = λ reach es fs same. rows_of-AgreesAbove same

pub returns-clause-test : goal.returns-clause-test
returns-clause-test c = λ reach es fs usage same. (IsReached-AgreesAbove usage same, IsReached-AgreesAbove usage (AgreesAbove-sym same))
