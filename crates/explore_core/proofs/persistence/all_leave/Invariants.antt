use Rattle.std.proofs.Common.{◌≡◌, ℕ, ◌<◌}
use Rattle.explore_core.specs.Choice.{ClientLeaves, choice_of}
use Rattle.explore_core.specs.Flow.{bounds_of}
use Rattle.explore_core.specs.Schedule.{Standing}
use Rattle.explore_core.specs.Search.{has_name}
use Rattle.explore_core.proofs.persistence.all_leave.Given as goal

abbrev pub invariant-loop-client : goal.invariant-loop-client
invariant-loop-client l = (now : Standing) → l.made ≡ now.made → (client : ℕ) → client < l.client →
    ClientLeaves (has_name l.asked) (bounds_of l.choice.flow) l.plan now (choice_of l.choice) l.what client
