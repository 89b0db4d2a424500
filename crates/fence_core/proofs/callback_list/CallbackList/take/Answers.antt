use Rattle.std.proofs.Common.{true, sym, subst, ap, ◌∙◌}
use Rattle.std.specs.Vec.{vec_items}
use Rattle.fence_core.specs.Callbacks.{AreCallbacks}
use Rattle.fence_core.proofs.Held.{AreCallbacks-none}
use Rattle.fence_core.proofs.callback_list.CallbackList.take.Goals as goal

pub invariant_of-self : goal.invariant_of-self
invariant_of-self c = subst (AreCallbacks true) (sym (ap vec_items c.replace.ensures.after ∙ c.new-none.ensures.items)) (AreCallbacks-none true)
