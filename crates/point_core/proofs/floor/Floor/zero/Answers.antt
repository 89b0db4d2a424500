use Rattle.std.proofs.Common.{sym, subst}
use Rattle.point_core.specs.Used.{AreInUse}
use Rattle.point_core.proofs.Used.{AreInUse-nil}
use Rattle.point_core.proofs.floor.Floor.zero.Goals as goal

pub invariant_of-result : goal.invariant_of-result
invariant_of-result c = subst AreInUse (sym c.new.ensures.items) AreInUse-nil
