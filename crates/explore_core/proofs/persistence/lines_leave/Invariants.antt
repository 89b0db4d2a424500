use Rattle.std.proofs.Common.{ℕ, ◌<◌, ◌≤◌}
use Rattle.explore_core.specs.Choice.{LeavesAt}
use Rattle.explore_core.specs.Flow.{bounds_of}
use Rattle.explore_core.specs.Search.{has_name}
use Rattle.explore_core.proofs.persistence.lines_leave.Given as goal

abbrev pub invariant-loop-place : goal.invariant-loop-place
invariant-loop-place l = (place : ℕ) → l.from ≤ place → place < l.place →
    LeavesAt (has_name l.asked) (bounds_of l.flow) l.plan l.client l.what place
