use Rattle.std.proofs.Common.{ℕ, ◌<◌, ◌≤◌}
use Rattle.explore_core.specs.Choice.{IsOrderlyAt}
use Rattle.explore_core.specs.Flow.{bounds_of}
use Rattle.explore_core.proofs.persistence.are_orderly.Given as goal

abbrev pub invariant-loop-place : goal.invariant-loop-place
invariant-loop-place l = (place : ℕ) → l.from ≤ place → place < l.place → IsOrderlyAt (bounds_of l.flow) l.plan l.client l.limit place
