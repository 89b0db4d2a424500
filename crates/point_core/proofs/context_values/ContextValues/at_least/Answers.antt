use Rattle.point_core.proofs.InUse.{IsAtLeast-in_use, IsAtLeast-padded}
use Rattle.point_core.proofs.context_values.ContextValues.at_least.Goals as goal

pub returns : goal.returns
returns c =
    rw (← c.self.view_is) (
      λ is. IsAtLeast-in_use c.self.inside.values c.args.other.now c.loop-index.index c.requires.in_use c.loop-index-test.false (c.loop-index.invariant.0 is),
      λ h. c.loop-index.invariant.1 (λ k low. IsAtLeast-padded c.args.other.now h k),
    )
