use Rattle.std.proofs.Common.{◌<◌, length, arith}
use Rattle.explore_core.specs.Shortening.{IsTrueRace, pair_of}
use Rattle.explore_core.proofs.Omitting.{AreShortened-refl, AreShortened-set}
use Rattle.explore_report.proofs.shortening.show_races.Goals as goal

pub loop-race-init : goal.loop-race-init
loop-race-init c = AreShortened-refl pair_of (IsTrueRace c.args.plan.now) c.args.races.now

pub loop-race-preserved : goal.loop-race-preserved
loop-race-preserved c =
    let now = c.loop-race.races in
    let i = c.loop-race.race-index in
    let low : i < length now = omega arith in
    let one = c.show_race in
    AreShortened-set pair_of (IsTrueRace c.args.plan.now) c.args.races.now now i _ one.new.race low one.ensures.same one.ensures.right c.loop-race.invariant
