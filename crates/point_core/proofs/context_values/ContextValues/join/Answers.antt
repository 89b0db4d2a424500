use Rattle.std.proofs.Common.{◌∙◌, arith}
use Rattle.point_core.proofs.InUse.{later_values-in_use}
use Rattle.point_core.proofs.context_values.ContextValues.join.Goals as goal

pub invariant_of-self : goal.invariant_of-self
invariant_of-self c =
    let kept = c.loop-index.invariant in
    let joined = later_values-in_use c.self.inside.values c.args.other.now c.loop-index.self-inside.values c.loop-index.index c.self.invariant.0 kept.full c.requires.in_use c.loop-index-test.false kept.joined kept.others in
    (kept.full ∙ c.self.invariant.0, omega arith, rw (c.max-self-inside.ensures, kept.used, c.self.invariant.2) joined.1)

pub returns-clause-values : goal.returns-clause-values
returns-clause-values c =
    let kept = c.loop-index.invariant in
    let joined = later_values-in_use c.self.inside.values c.args.other.now c.loop-index.self-inside.values c.loop-index.index c.self.invariant.0 kept.full c.requires.in_use c.loop-index-test.false kept.joined kept.others in
    rw (← c.self.view_is) joined.0
