use Rattle.std.proofs.Common.{◌≤◌}
use Rattle.explore_core.proofs.trial.Trial.changing.Given as goal

abbrev pub invariant-loop-client : goal.invariant-loop-client
invariant-loop-client l = l.changing ≤ l.client
