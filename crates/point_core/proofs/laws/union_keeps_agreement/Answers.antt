use Rattle.point_core.proofs.Agreement.{AgreesAbove-append, AgreesAbove-comm, AgreesAbove-idem}
use Rattle.point_core.proofs.laws.union_keeps_agreement.Goals as goal

pub returns-clause-kept : goal.returns-clause-kept
returns-clause-kept c = λ reach es fs gs hs left right. AgreesAbove-append left right

pub returns-clause-commutative : goal.returns-clause-commutative
returns-clause-commutative c = AgreesAbove-comm

pub returns-clause-idempotent : goal.returns-clause-idempotent
returns-clause-idempotent c = AgreesAbove-idem
