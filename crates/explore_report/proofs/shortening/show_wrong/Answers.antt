use Rattle.std.proofs.Common.{◌<◌, length, arith}
use Rattle.explore_core.specs.Shortening.{IsTrueAnswer, line_of}
use Rattle.explore_core.proofs.Omitting.{AreShortened-refl, AreShortened-set}
use Rattle.explore_report.proofs.shortening.show_wrong.Goals as goal

pub loop-one-init : goal.loop-one-init
loop-one-init c = AreShortened-refl line_of (IsTrueAnswer c.args.plan.now.plan) c.args.given.now

pub loop-one-preserved : goal.loop-one-preserved
loop-one-preserved c =
    let now = c.loop-one.given in
    let i = c.loop-one.one-index in
    let low : i < length now = omega arith in
    let one = c.show_if_wrong in
    AreShortened-set line_of (IsTrueAnswer c.args.plan.now.plan) c.args.given.now now i _ one.new.given low one.ensures.same one.ensures.right c.loop-one.invariant
