use Rattle.std.proofs.Common.{arith}
use Rattle.explore_core.specs.Choice.{LeavesAt}
use Rattle.explore_core.specs.Flow.{bounds_of}
use Rattle.explore_core.specs.Search.{has_name}
use Rattle.explore_core.proofs.Settling.{each-more}
use Rattle.explore_core.proofs.persistence.lines_leave.Goals as goal

pub loop-place-init : goal.loop-place-init
loop-place-init c = λ place low high. absurd (omega (arith, low, high))

pub loop-place-preserved : goal.loop-place-preserved
loop-place-preserved c =
    each-more (LeavesAt (has_name c.args.asked.now) (bounds_of c.args.flow.now) c.args.plan.now c.args.client c.args.what.now) c.args.from c.loop-place.place
    c.loop-place.invariant (c.line_leaves.ensures c.if-not-line_leaves.false)

pub returns : goal.returns
returns c = λ is place low high. c.loop-place.invariant place low (omega (arith, high, c.loop-place-test.false))
