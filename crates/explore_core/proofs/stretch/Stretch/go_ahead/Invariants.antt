use Rattle.explore_core.specs.Shortening.{HasRun}
use Rattle.explore_core.proofs.stretch.Stretch.go_ahead.Given as goal

abbrev pub invariant-loop : goal.invariant-loop
invariant-loop l = HasRun l.plan l.initial.rerun → HasRun l.plan l.rerun
