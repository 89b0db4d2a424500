use Rattle.std.proofs.Common.{sym, subst, ◌∙◌}
use Rattle.point_core.specs.Used.{AreInUse}
use Rattle.point_core.proofs.Used.{AreInUse-nil}
use Rattle.point_core.proofs.floor.Floor.copy_from.Goals as goal

pub invariant_of-self : goal.invariant_of-self
invariant_of-self c = subst AreInUse (sym (c.reserve_exact.ensures.items ∙ c.clear.ensures.items)) AreInUse-nil
