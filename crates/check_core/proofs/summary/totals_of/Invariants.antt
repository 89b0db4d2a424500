use Rattle.std.proofs.Common.{◌≡◌, take}
use Rattle.check_core.specs.Outcome.{totals_of}
use Rattle.check_core.proofs.summary.totals_of.Given as goal

abbrev pub invariant-loop-outcome : goal.invariant-loop-outcome
invariant-loop-outcome l = l.totals ≡ totals_of (take l.outcome-index l.outcomes)
