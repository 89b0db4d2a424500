use Rattle.std.proofs.Common.{arith}
use Rattle.explore_core.specs.Choice.{IsOrderlyAt}
use Rattle.explore_core.specs.Flow.{bounds_of}
use Rattle.explore_core.proofs.Settling.{each-more}
use Rattle.explore_core.proofs.persistence.are_orderly.Goals as goal

pub loop-place-init : goal.loop-place-init
loop-place-init c = λ place low high. absurd (omega (arith, low, high))

pub loop-place-preserved : goal.loop-place-preserved
loop-place-preserved c =
    each-more (IsOrderlyAt (bounds_of c.args.flow.now) c.args.plan.now c.args.client c.args.limit) c.args.from c.loop-place.place c.loop-place.invariant
    (c.is_orderly_at.ensures c.if-not-is_orderly_at.false)

pub returns : goal.returns
returns c = λ is place low high. c.loop-place.invariant place low (omega (arith, high, c.loop-place-test.false))
