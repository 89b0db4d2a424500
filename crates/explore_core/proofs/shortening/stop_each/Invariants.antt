use Rattle.explore_core.specs.Shortening.{IsBetter}
use Rattle.explore_core.proofs.shortening.stop_each.Given as goal

abbrev pub invariant-loop-client : goal.invariant-loop-client
invariant-loop-client l = IsBetter l.plan l.purpose l.initial.best l.best
