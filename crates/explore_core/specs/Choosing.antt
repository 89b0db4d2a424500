-- Which clients go at a state.
use Rattle.std.specs.Prelude.{◌≡◌, true}
use Rattle.explore_core.specs.declared.choice.Choice.{Choice}
use Rattle.explore_core.specs.declared.chooser.Chooser.{Chooser}
use Rattle.explore_core.specs.Blocks.{NeverWaits}
use Rattle.explore_core.specs.Choice.{choice_of}
use Rattle.explore_core.specs.Flow.{bounds_of}
use Rattle.explore_core.specs.Levels.{IsOutside}
use Rattle.explore_core.specs.Persistent.{IsCalm, IsPersistent}
use Rattle.explore_core.specs.Schedule.{Lines, Standing, beginning}
use Rattle.explore_core.specs.Search.{is_asked}

-- if the chooser chooses, there is room along each schedule, and no client waits inside a block
pub record IsReady (plan : Lines) (chooser : Chooser) : Type 0 where
  pub calm : chooser.chooses ≡ true → IsCalm plan (beginning plan)
  pub prompt : chooser.chooses ≡ true → NeverWaits plan

-- the chooser chooses, nobody is inside a block at the standing, and these clients are a persistent choice there
pub record IsChoiceAt (plan : Lines) (chooser : Chooser) (now : Standing) (kept : Choice) : Type 0 where
  pub chooses : chooser.chooses ≡ true
  pub outside : IsOutside plan now
  pub persistent : IsPersistent (is_asked plan) (bounds_of kept.flow) plan now (choice_of kept)
