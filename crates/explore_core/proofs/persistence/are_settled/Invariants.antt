use Rattle.std.proofs.Common.{ℕ, ◌<◌}
use Rattle.explore_core.specs.Choice.{IsSettled, choice_of}
use Rattle.explore_core.specs.Flow.{bounds_of}
use Rattle.explore_core.specs.Schedule.{Standing}
use Rattle.explore_core.specs.Search.{IsAt, has_name}
use Rattle.explore_core.proofs.persistence.are_settled.Given as goal

abbrev pub invariant-loop-client : goal.invariant-loop-client
invariant-loop-client l = (now : Standing) → IsAt l.position now → (client : ℕ) → client < l.client →
    IsSettled (has_name l.asked) (bounds_of l.choice.flow) l.plan now (choice_of l.choice) client
