use Rattle.std.proofs.Common.{◌≡◌, replicate}
use Rattle.explore_core.proofs.progress.clear_made.Given as goal

abbrev pub invariant-loop : goal.invariant-loop
invariant-loop l = l.made.items ≡ replicate l.counter 0
