use Rattle.point_core.proofs.Results.{same-Ok}
use Rattle.desk_core.proofs.Answering.{HasHistory-new}
use Rattle.desk_core.proofs.Inside.{inside-new}
use Rattle.desk_core.proofs.desk.Desk.clear.Goals as goal

pub invariant_of-self : goal.invariant_of-self
invariant_of-self c = inside-new c.clear.new.self c.clear-2.new.self c.clear-3.new.self c.unwrap.result
    c.clear.ensures c.clear-2.ensures c.clear-3.ensures (same-Ok c.new.result _ _ c.unwrap.ensures c.new.ensures)

pub returns : goal.returns
returns c = record {
  empty = HasHistory-new c.clear.new.self c.clear-2.new.self c.clear-3.new.self c.unwrap.result
      c.clear.ensures c.clear-2.ensures c.clear-3.ensures (same-Ok c.new.result _ _ c.unwrap.ensures c.new.ensures);
}
