use Rattle.fence_core.proofs.Above.{AreAbove-nothing}
use Rattle.fence_core.proofs.Registered.{AreRegistered-none}
use Rattle.fence_core.proofs.Indexed.{IsIndexed-none}
use Rattle.fence_core.proofs.watches.Watches.new.Goals as goal

pub invariant_of-result : goal.invariant_of-result
invariant_of-result c = (AreRegistered-none _ _ c.new.ensures.empty, IsIndexed-none _ _ c.new.ensures.empty c.new-2.ensures, λ settled. AreAbove-nothing _ _ c.new-2.ensures)
