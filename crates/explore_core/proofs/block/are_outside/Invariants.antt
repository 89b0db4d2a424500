use Rattle.std.proofs.Common.{◌≡◌, ℕ, false, ◌<◌}
use Rattle.explore_core.specs.Schedule.{is_in_block}
use Rattle.explore_core.proofs.block.are_outside.Given as goal

abbrev pub invariant-loop-client : goal.invariant-loop-client
invariant-loop-client l = (k : ℕ) → k < l.client → is_in_block l.plan l.made k ≡ false
