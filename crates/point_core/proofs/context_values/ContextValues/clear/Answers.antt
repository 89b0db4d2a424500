use Rattle.std.proofs.Common.{◌∙◌, arith, ap, sym}
use Rattle.point_core.specs.declared.context.TheConstants.{CONTEXTS}
use Rattle.point_core.specs.Used.{used_of}
use Rattle.point_core.proofs.InUse.{cleared}
use Rattle.point_core.proofs.Used.{used_of-replicate}
use Rattle.point_core.proofs.context_values.ContextValues.clear.Goals as goal

pub invariant_of-self : goal.invariant_of-self
invariant_of-self c =
    let kept = c.loop-index.invariant in
    let zero = cleared c.self.inside.values c.loop-index.self-inside.values c.loop-index.index (kept.full ∙ c.self.invariant.0) (omega arith) kept.zero kept.others in
    (kept.full ∙ c.self.invariant.0, omega arith, used_of-replicate CONTEXTS ∙ ap used_of (sym zero))

pub returns : goal.returns
returns c =
    let kept = c.loop-index.invariant in
    record { zero = cleared c.self.inside.values c.loop-index.self-inside.values c.loop-index.index (kept.full ∙ c.self.invariant.0) (omega arith) kept.zero kept.others }
