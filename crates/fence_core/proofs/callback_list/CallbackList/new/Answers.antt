use Rattle.std.proofs.Common.{false, sym, subst}
use Rattle.fence_core.specs.Callbacks.{AreCallbacks}
use Rattle.fence_core.proofs.Held.{AreCallbacks-none}
use Rattle.fence_core.proofs.callback_list.CallbackList.new.Goals as goal

pub invariant_of-result : goal.invariant_of-result
invariant_of-result c = subst (AreCallbacks false) (sym c.new.ensures.items) (AreCallbacks-none false)
