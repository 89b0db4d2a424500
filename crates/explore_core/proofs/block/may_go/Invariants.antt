use Rattle.std.proofs.Common.{◌≡◌, ◌≢◌, ℕ, false, ◌<◌}
use Rattle.explore_core.specs.Schedule.{is_in_block}
use Rattle.explore_core.proofs.block.may_go.Given as goal

abbrev pub invariant-loop-other : goal.invariant-loop-other
invariant-loop-other l = (k : ℕ) → k < l.other → k ≢ l.client → is_in_block l.plan l.made k ≡ false
