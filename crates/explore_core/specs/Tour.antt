-- What the visits of a level do.
use Rattle.std.specs.Prelude.{ℕ, ◌+◌}
use Rattle.explore_core.specs.declared.setup.Setup.{Setup}
use Rattle.explore_core.specs.declared.tour.Tour.{Tour}
use Rattle.explore_core.specs.Choosing.{IsReady}
use Rattle.explore_core.specs.Found.{CanBeExplored}
use Rattle.explore_core.specs.Schedule.{Lines}
use Rattle.explore_core.specs.Search.{AreAsked, Grows, Extends}

-- the plan can be explored, and the rest is worked out of it
pub record IsSetup (setup : Setup) : Type 0 where
  pub explorable : CanBeExplored setup.plan.now
  pub asked : AreAsked setup.plan.now setup.asked.items
  pub ready : IsReady setup.plan.now setup.chooser

-- more is found, in schedules of that length, and more states of the next level are kept
abbrev pub Advances : Lines → ℕ → Tour → Tour → Type 0
Advances plan depth old new = Grows plan depth old.found new.found × Extends plan (depth + 1) old.next new.next
