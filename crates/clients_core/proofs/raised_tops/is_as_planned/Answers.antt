use Rattle.resv_core.proofs.Comparing.{AgreesAbove-AreSame, AreSame-AgreesAbove}
use Rattle.clients_core.proofs.raised_tops.is_as_planned.Goals as goal

pub returns-clause-planned : goal.returns-clause-planned
returns-clause-planned c =
    let raised = c.raised_tops.ensures in
    let planned = c.planned_tops.ensures in (
      (λ is. AgreesAbove-AreSame raised.tops planned.tops raised.contexts planned.contexts (c.is_same.ensures.same.0 is)),
      (λ h. c.is_same.ensures.same.1 (AreSame-AgreesAbove raised.tops planned.tops h)),
    )
