use Rattle.explore_core.specs.Shortening.{IsBetter}
use Rattle.explore_core.proofs.nearing.go_in_turn.Given as goal

abbrev pub invariant-loop : goal.invariant-loop
invariant-loop l = IsBetter l.plan l.purpose l.initial.best l.best
