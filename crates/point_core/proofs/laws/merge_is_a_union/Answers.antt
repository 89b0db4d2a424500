use Rattle.point_core.proofs.Merges.{merged-comm, merged-assoc, merged-idem, AgreesAbove-merged, AgreesAbove-merged_idem}
use Rattle.point_core.proofs.laws.merge_is_a_union.Goals as goal

pub returns-clause-commutative : goal.returns-clause-commutative
returns-clause-commutative c = merged-comm

pub returns-clause-associative : goal.returns-clause-associative
returns-clause-associative c = merged-assoc

pub returns-clause-idempotent : goal.returns-clause-idempotent
returns-clause-idempotent c = AgreesAbove-merged_idem

pub returns-clause-union : goal.returns-clause-union
returns-clause-union c = AgreesAbove-merged

pub returns-clause-same : goal.returns-clause-same
returns-clause-same c = merged-idem
