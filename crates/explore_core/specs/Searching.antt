-- What a search has come to.
use Rattle.std.specs.Prelude.{ℕ, Bool}
use Rattle.explore_core.specs.declared.found.Found.{Found}
use Rattle.explore_core.specs.Schedule.{Lines}

-- what is found of the plan so far, how many states are visited at most, and how many come next, unless the search has ended
pub record SearchState : Type 0 where
  pub plan : Lines
  pub bound : ℕ
  pub found : Found
  pub coming : ℕ
  pub has_ended : Bool
