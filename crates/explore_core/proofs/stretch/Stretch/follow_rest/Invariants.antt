use Rattle.explore_core.specs.Shortening.{HasRun}
use Rattle.explore_core.proofs.stretch.Stretch.follow_rest.Given as goal

abbrev pub invariant-loop-client : goal.invariant-loop-client
invariant-loop-client l = HasRun l.plan l.initial.rerun → HasRun l.plan l.rerun
