use Rattle.desk_core.proofs.desk.Desk.outcome.Goals as goal

pub returns-in-Inc-clause-sure : goal.returns-in-Inc-clause-sure
returns-in-Inc-clause-sure c none = c.inc.ensures.sure (rw c.in-Inc.is at none)
