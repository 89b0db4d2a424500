use Rattle.explore_core.specs.Shortening.{HasRun}
use Rattle.explore_core.proofs.rerun.Rerun.follow_but.Given as goal

abbrev pub invariant-loop-client : goal.invariant-loop-client
invariant-loop-client l = HasRun l.plan l.initial.self → HasRun l.plan l.self
