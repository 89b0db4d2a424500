-- Files beside running timelines, whose clocks a seat loads one after another.
use Rattle.std.specs.Prelude.{◌≡◌, ◌↔◌, ℕ, zero, suc, ◌+◌, ◌<◌, ◌≤◌, List, ◌++◌, All, IsTrue}
use Rattle.point_core.specs.declared.clocks.Clock.{Clock}
use Rattle.point_core.specs.declared.entry.Point.{Point}
use Rattle.point_core.specs.declared.status.Status.{Status}
use Rattle.point_core.specs.declared.status.Status.TheVariants.{Active}
use Rattle.point_core.specs.Agreement.{HasRisingContexts}
use Rattle.point_core.specs.Reach.{value_at, IsAtLeast}
use Rattle.point_core.specs.Clocks.{clock_at, common_status, reached_by}
use Rattle.point_core.specs.TwoLists.{AllFrom}
use Rattle.words_core.specs.theorem.Loads.{clocks_seen, reach_seen, HasLoadedClocks}
use Rattle.words_core.specs.theorem.Seat.{SeatModel}
use Rattle.syncfile_core.specs.declared.running.Found.{Found}
use Rattle.syncfile_core.specs.SyncFile.{File}

-- the file is consistent with words of `made` contexts that have these values: no value of its floor is above them, and
-- each point's context exists
pub record IsBorneOutAt (reach : List ℕ) (made : ℕ) (f : File) : Type 0 where
  pub floor : IsAtLeast reach f.floor
  pub points : All (λ (p : Point). p.ctx ≤ made) f.points

-- the file is consistent with what the seat has seen of the words
abbrev pub IsBorneOut : SeatModel → File → Type 0
IsBorneOut seat f = IsBorneOutAt (reach_seen seat) seat.words.contexts f

-- one poll, which loaded all clocks and found the file consistent and Active
pub record IsActivePoll (f : File) (before after : SeatModel) : Type 0 where
  pub loaded : HasLoadedClocks before after (clocks_seen after)
  pub borne_out : IsBorneOut after f
  pub active : common_status (clocks_seen after) f.points ≡ Active

-- this number of polls one after another, each Active, and no other step
abbrev pub HasRunOut : File → ℕ → SeatModel → SeatModel → Type 0
HasRunOut f zero before after = after ≡ before
HasRunOut f (suc n) before after = (seat : SeatModel) × HasRunOut f n before seat × IsActivePoll f seat after

-- fewer than `tries` polls that were Active, and then one more poll, and no other step
pub record HasPolled (f : File) (tries : ℕ) (before after : SeatModel) : Type 0 where
  pub count : ℕ
  pub within : count < tries
  pub seat : SeatModel
  pub active : HasRunOut f count before seat
  pub last : HasLoadedClocks seat after (clocks_seen after)

-- by these clocks, the points of the first n contexts have this status together; the rest are points of later contexts
pub record HasPassedTo (clocks : List Clock) (points : List Point) (n : ℕ) (status : Status) (rest : List Point) : Type 0 where
  pub passed : List Point
  pub parts : points ≡ passed ++ rest
  pub first : All (λ (p : Point). (1 ≤ p.ctx) × (p.ctx ≤ n)) passed
  pub later : 0 < n → AllFrom (n + 1) rest
  pub rising : HasRisingContexts rest
  pub together : status ≡ common_status clocks passed

-- the result of a scan of the first n contexts: the status of their points, and whether no value of the floor is above
-- these clocks
pub record HasFoundTo (clocks : List Clock) (f : File) (n : ℕ) (found : Found) : Type 0 where
  pub floor : IsTrue found.borne_out
      ↔ ((ctx : ℕ) → 1 ≤ ctx → ctx ≤ n → value_at f.floor ctx ≤ reached_by (clock_at clocks ctx))
  pub points : HasPassedTo clocks f.points n found.status found.rest.now
