use Rattle.std.proofs.Common.{arith, ◌∙◌}
use Rattle.std.proofs.lemmas.List.{length-set}
use Rattle.point_core.proofs.Used.{used_of-set}
use Rattle.point_core.proofs.context_values.ContextValues.raise.Goals as goal

pub invariant_of-self : goal.invariant_of-self
invariant_of-self c =
    let values = c.self.inside.values in
    let full = c.self.invariant.0 in
    (length-set values c.args.index c.args.value ∙ full, omega arith, omega (arith, c.self.invariant.2, used_of-set values c.args.index c.args.value (omega arith) (omega arith)))

pub invariant_of-self-else-self-index-2 : goal.invariant_of-self-else-self-index-2
invariant_of-self-else-self-index-2 c =
    let values = c.self.inside.values in
    let full = c.self.invariant.0 in
    (length-set values c.args.index c.args.value ∙ full, omega arith, omega (arith, c.self.invariant.2, used_of-set values c.args.index c.args.value (omega arith) (omega arith)))
