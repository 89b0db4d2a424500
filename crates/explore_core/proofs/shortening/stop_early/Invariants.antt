use Rattle.std.proofs.Common.{◌+◌}
use Rattle.explore_core.specs.Shortening.{IsBetter}
use Rattle.explore_core.proofs.shortening.stop_early.Given as goal

abbrev pub invariant-loop-count : goal.invariant-loop-count
invariant-loop-count l = IsBetter l.plan l.purpose l.initial.best l.best

abbrev pub decreases-loop-count : goal.decreases-loop-count
decreases-loop-count l = l.place + l.place + l.count
