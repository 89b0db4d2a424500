-- What clients access while they are at some of their lines, and the races of two clients.
use Rattle.std.specs.Prelude.{◌≡◌, ℕ, ◌<◌, ◌==◌, nat_le, Bool, true, not, ◌&&◌, ◌||◌, List, get_or, slice_get, Some}
use Rattle.point_core.specs.Named.{same_name}
use Rattle.explore_core.specs.declared.access.Access.{Access}
use Rattle.explore_core.specs.Schedule.{Lines, Schedule, Standing, ComesTo}

-- the place is one of the access's
abbrev pub holds : Access → ℕ → Bool
holds a place = nat_le a.first place && nat_le place a.last

-- the client accesses the buffer: its next line is one of the access's
abbrev pub is_inside : Access → List ℕ → Bool
is_inside a made = holds a (get_or made a.client 0)

-- two clients' accesses to one buffer, one of which writes
abbrev pub conflict : Access → Access → Bool
conflict a b = not (a.client == b.client) && (same_name a.buffer b.buffer && (a.writes || b.writes))

-- both accesses at once
abbrev pub is_race : Access → Access → List ℕ → Bool
is_race a b made = conflict a b && (is_inside a made && is_inside b made)

-- where each client has made that many lines, two accesses of the plan are a race: the first of them, and a later one in the plan's list
pub record RaceAt (plan : Lines) (made : List ℕ) (one other : ℕ) : Type 0 where
  pub before : one < other
  pub first : Access
  pub first_is : slice_get plan.accesses one ≡ Some first
  pub second : Access
  pub second_is : slice_get plan.accesses other ≡ Some second
  pub race : is_race first second made ≡ true

-- the schedule leads to a standing at which the two accesses are a race
pub record IsRace (plan : Lines) (schedule : Schedule) (one other : ℕ) : Type 0 where
  pub now : Standing
  pub comes : ComesTo plan schedule now
  pub both : RaceAt plan now.made one other
