use Rattle.point_core.proofs.Results.{same-Ok}
use Rattle.desk_core.proofs.Answering.{HasHistory-new}
use Rattle.desk_core.proofs.Inside.{inside-new}
use Rattle.desk_core.proofs.desk.Desk.new.Goals as goal

pub invariant_of-result : goal.invariant_of-result
invariant_of-result c = inside-new c.unwrap.result c.unwrap-2.result c.unwrap-3.result c.unwrap-4.result
    (same-Ok c.new.result _ _ c.unwrap.ensures c.new.ensures.empty)
    (same-Ok c.new-2.result _ _ c.unwrap-2.ensures c.new-2.ensures.empty)
    (same-Ok c.new-3.result _ _ c.unwrap-3.ensures c.new-3.ensures)
    (same-Ok c.new-4.result _ _ c.unwrap-4.ensures c.new-4.ensures)

pub returns-clause-empty : goal.returns-clause-empty
returns-clause-empty c = HasHistory-new c.unwrap.result c.unwrap-2.result c.unwrap-3.result c.unwrap-4.result
    (same-Ok c.new.result _ _ c.unwrap.ensures c.new.ensures.empty)
    (same-Ok c.new-2.result _ _ c.unwrap-2.ensures c.new-2.ensures.empty)
    (same-Ok c.new-3.result _ _ c.unwrap-3.ensures c.new-3.ensures)
    (same-Ok c.new-4.result _ _ c.unwrap-4.ensures c.new-4.ensures)
