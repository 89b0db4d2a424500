-- The schedules that are shown, brought near to the order of the plan's lines.
use Rattle.std.specs.Prelude.{◌≡◌, ℕ, Option, None, Some, Vec}
use Rattle.std.specs.Global.{Global}
use Rattle.explore_core.specs.Schedule.{Lines}
use Rattle.explore_core.specs.Shortening.{AreShortened, GetsStuck, IsTrueAnswer, IsTrueRace, line_of, pair_of}
use Rattle.explore_core.specs.declared.found.Found.{Found}

-- a schedule that gets stuck stays one
abbrev pub StaysStuck : Lines → Option (Vec ℕ Global) → Option (Vec ℕ Global) → Type 0
StaysStuck plan None new = new ≡ None
StaysStuck plan (Some shown) new = (near : Vec ℕ Global) × (new ≡ Some near) × (GetsStuck plan shown.items → GetsStuck plan near.items)

-- the same is found, after other schedules
pub record IsBroughtNear (plan : Lines) (old new : Found) : Type 0 where
  pub given : AreShortened line_of (IsTrueAnswer plan) old.given.items new.given.items
  pub races : AreShortened pair_of (IsTrueRace plan) old.races.items new.races.items
  pub stuck : StaysStuck plan old.stuck new.stuck
  pub rest : new ≡ record old { given = new.given; races = new.races; stuck = new.stuck }
