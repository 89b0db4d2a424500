use Rattle.std.proofs.Common.{◌∙◌, sym}
use Rattle.fence_core.proofs.Above.{IsAtLeast-both}
use Rattle.fence_core.proofs.watches.follow.Goals as goal

pub returns-then-at_least-clause-values : goal.returns-then-at_least-clause-values
returns-then-at_least-clause-values c = IsAtLeast-both c.args.kept.now c.args.reach.now (c.at.ensures.full ∙ sym c.at-2.ensures.full) (c.at_least.ensures.0 c.if-at_least.true) c.requires.rises
