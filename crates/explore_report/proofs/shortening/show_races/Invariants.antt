use Rattle.explore_core.specs.Shortening.{AreShortened, IsTrueRace, pair_of}
use Rattle.explore_report.proofs.shortening.show_races.Given as goal

abbrev pub invariant-loop-race : goal.invariant-loop-race
invariant-loop-race l = AreShortened pair_of (IsTrueRace l.plan) l.fn.races l.races
