use Rattle.std.proofs.Common.{◌≡◌, ℕ, ◌<◌, None}
use Rattle.explore_core.specs.Schedule.{MayGo, Standing, after_one}
use Rattle.explore_core.specs.Search.{IsAt}
use Rattle.explore_core.proofs.shown.can_one_go.Given as goal

abbrev pub invariant-loop-client : goal.invariant-loop-client
invariant-loop-client l = (now : Standing) → IsAt l.initial.position now → IsAt l.position now × ((k : ℕ) → k < l.client → MayGo l.plan now.made k → after_one l.plan now k ≡ None)
