use Rattle.explore_core.specs.Shortening.{IsBetter}
use Rattle.explore_core.proofs.nearing.wait_at.Given as goal

abbrev pub invariant-loop-more : goal.invariant-loop-more
invariant-loop-more l = IsBetter l.plan l.purpose l.initial.best l.best
