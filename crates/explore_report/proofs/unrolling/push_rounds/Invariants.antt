use Rattle.std.proofs.Common.{◌≡◌, ◌++◌}
use Rattle.explore_report.specs.Turns.{rounds_made}
use Rattle.explore_report.proofs.unrolling.push_rounds.Given as goal

abbrev pub invariant-loop-done : goal.invariant-loop-done
invariant-loop-done l = l.made.items ≡ l.fn.made.items ++ rounds_made l.body l.done
