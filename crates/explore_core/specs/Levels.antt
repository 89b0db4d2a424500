-- What a search knows of every schedule once it has visited a level.
use Rattle.std.specs.Prelude.{◌≡◌, ◌⊎◌, ℕ, ◌+◌, ◌≤◌, true, false, List, length, All, Contains, Some}
use Rattle.explore_core.specs.declared.found.Found.{Found}
use Rattle.explore_core.specs.declared.state.State.{State}
use Rattle.explore_core.specs.Access.{RaceAt}
use Rattle.explore_core.specs.Covering.{AnswersThere, GoOnAlike, HasAlike}
use Rattle.explore_core.specs.Found.{IsAll, IsReachable, Lists, ListsRace, Suffice, stuck_of}
use Rattle.explore_core.specs.Independence.{Bounds}
use Rattle.explore_core.specs.Blocks.{NeverWaits}
use Rattle.explore_core.specs.Moving.{LineAnswer}
use Rattle.explore_core.specs.Persistent.{Choice, IsCalm, IsPersistent}
use Rattle.explore_core.specs.Schedule.{Lines, Standing, Schedule, is_in_block, ComesTo, Counts, IsLast, IsStuck, Leads, MayGo}
use Rattle.explore_core.specs.Search.{Answers, HasEnds, HasRaces, IsFollowed, IsOnward, IsState, is_asked, standing_at}

-- each client is followed from the standing, and what happens there in the end is listed
pub record FollowsAll (plan : Lines) (found : Found) (next : List State) (now : Standing) : Type 0 where
  pub followed : (client : ℕ) → IsFollowed plan found next now client
  pub ended : HasEnds plan found now
  pub stuck : IsStuck plan now → (shown : List ℕ) × (stuck_of found ≡ Some shown)

-- no client is inside a block
abbrev pub IsOutside : Lines → Standing → Type 0
IsOutside plan now = (client : ℕ) → is_in_block plan now.made client ≡ false

-- The clients of a persistent choice are followed from the standing. Nobody is inside a block there, or behind their lines.
pub record FollowsChoice (plan : Lines) (found : Found) (next : List State) (now : Standing) : Type 0 where
  pub bounds : Bounds
  pub calm : IsCalm plan now
  pub prompt : NeverWaits plan
  pub outside : IsOutside plan now
  pub choice : Choice
  pub persistent : IsPersistent (is_asked plan) bounds plan now choice
  pub followed : (client : ℕ) → choice.chosen client ≡ true → IsFollowed plan found next now client
  pub onward : (client : ℕ) → choice.chosen client ≡ true → IsOnward plan now client

-- from the state all clients are followed, or enough of them
abbrev pub IsLeft : Lines → Found → List State → State → Type 0
IsLeft plan found next state = FollowsAll plan found next (standing_at plan state) ⊎ FollowsChoice plan found next (standing_at plan state)

-- the races at the state are listed, and from it enough clients are followed
pub record IsVisited (plan : Lines) (found : Found) (next : List State) (state : State) : Type 0 where
  pub races : HasRaces plan found (standing_at plan state)
  pub left : IsLeft plan found next state

-- at the standing the client may go, makes its line at that place, and gets that answer
pub record Gives (plan : Lines) (now : Standing) (a : LineAnswer) : Type 0 where
  pub may : MayGo plan now.made a.client
  pub given : Answers plan now a.client a.place a.answer

-- the answer is listed, and a visited standing gives it
pub record IsKnown (plan : Lines) (found : Found) (visited : List Standing) (a : LineAnswer) : Type 0 where
  pub there : AnswersThere plan visited a.client a.place a.answer
  pub listed : Lists found.given.items a.client a.place a.answer

-- the answer is known, or the standing gives it
abbrev pub IsKnownOr : Lines → Found → List Standing → Standing → LineAnswer → Type 0
IsKnownOr plan found visited later a = IsKnown plan found visited a ⊎ Gives plan later a

-- Whatever happens at the standing that the schedule comes to is listed. If no client can go there, a visited standing continues as it
-- does.
pub record IsFinished (plan : Lines) (found : Found) (visited : List Standing) (schedule : Schedule) (now : Standing) : Type 0 where
  pub answers : (a : LineAnswer) → Gives plan now a → IsKnown plan found visited a
  pub last : IsLast plan now → HasAlike (is_asked plan) visited now
  pub ended : HasEnds plan found now
  pub races : HasRaces plan found now
  pub stuck : IsStuck plan now → (shown : List ℕ) × (stuck_of found ≡ Some shown) × (length shown ≤ length schedule)

-- From one of the states another schedule leads to where all answers are given that are given at this one's end and are not known yet,
-- and to the same races. If no client can go where this one leads, the other leads to a standing that continues in the same way, after
-- as many lines in all.
pub record LeadsOn (plan : Lines) (found : Found) (visited : List Standing) (depth : ℕ) (states : List State)
    (schedule : Schedule) (now : Standing) : Type 0 where
  pub state : State
  pub there : Contains states state
  pub rest : Schedule
  pub later : Standing
  pub leads : Leads plan (standing_at plan state) rest later
  pub counts : Counts plan (standing_at plan state) rest
  pub answers : (a : LineAnswer) → Gives plan now a → IsKnownOr plan found visited later a
  pub races : (one other : ℕ) → RaceAt plan now.made one other →
      ListsRace found.races.items one other ⊎ RaceAt plan later.made one other
  pub last : IsLast plan now → (length schedule ≡ depth + length rest) × GoOnAlike (is_asked plan) now later

-- as many standings are visited as are counted, and each schedule is finished or leads on from one of the states
pub record IsCovered (plan : Lines) (found : Found) (depth : ℕ) (states : List State) : Type 0 where
  pub are : All (IsState plan depth) states
  pub visited : List Standing
  pub count : length visited ≡ found.states
  pub reached : All (IsReachable plan) visited
  pub covers : (schedule : Schedule) (now : Standing) → ComesTo plan schedule now →
      IsFinished plan found visited schedule now ⊎ LeadsOn plan found visited depth states schedule now
  pub soon : (shown : List ℕ) → stuck_of found ≡ Some shown → length shown ≤ depth

-- the search may visit these states next
pub record MayVisit (plan : Lines) (bound depth : ℕ) (states : List State) (found : Found) : Type 0 where
  pub covered : IsCovered plan found depth states
  pub within : found.states + length states ≤ bound
  pub unfinished : found.covered ≡ false

-- every schedule is covered
pub record IsComplete (plan : Lines) (found : Found) : Type 0 where
  pub all : IsAll plan found
  pub enough : Suffice plan found.states
