use Rattle.std.proofs.Common.{refl, arith}
use Rattle.point_core.specs.declared.context.TheConstants.{CONTEXTS}
use Rattle.point_core.proofs.Used.{used_of-replicate}
use Rattle.point_core.proofs.context_values.ContextValues.zero.Goals as goal

pub invariant_of-result : goal.invariant_of-result
invariant_of-result c = (refl, omega arith, used_of-replicate CONTEXTS)
