use Rattle.std.proofs.Common.{◌≡◌}
use Rattle.explore_report.specs.Turns.{numbered}
use Rattle.explore_report.proofs.unrolling.numbered.Given as goal

abbrev pub invariant-loop-above : goal.invariant-loop-above
invariant-loop-above l = l.turns.items ≡ numbered l.above
