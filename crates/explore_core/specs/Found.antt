-- What an exploration of a plan finds.
use Rattle.std.specs.Prelude.{◌≡◌, ℕ, ◌≤◌, Bool, true, List, length, All, Contains, Option, Some, IfSome, option_map, slice_get, Vec, ⊤}
use Rattle.std.specs.Global.{Global}
use Rattle.std.specs.List.{AllPairs}
use Rattle.command_core.specs.declared.answer.Answer.{Answer}
use Rattle.command_core.specs.declared.command.Command.{Command}
use Rattle.command_core.specs.declared.command.Command.TheVariants as command
use Rattle.explore_core.specs.declared.plan.Step.{Step}
use Rattle.explore_core.specs.declared.found.Given.{Given}
use Rattle.explore_core.specs.declared.found.Found.{Found}
use Rattle.explore_core.specs.declared.found.Race.{Race}
use Rattle.explore_core.specs.Access.{IsRace}
use Rattle.explore_core.specs.Schedule.{Lines, lines_of, Standing, Schedule, ComesTo, IsLast, IsStuck, IsAnswered, IsEndAnswered}
use Rattle.explore_core.specs.Covering.{MayAsk, AnswersThere, HasAlike}

-- the command registers no watch
abbrev pub RegistersNone : Command → Type 0
RegistersNone (command.Watch f cookie) = ⊥
RegistersNone _ = ⊤

-- No line asks for a report, whose rows are in the order of making. Only the commands at the end may register a watch.
pub record CanBeExplored (plan : Lines) : Type 0 where
  pub asks : MayAsk (λ name. true) plan
  pub first : All RegistersNone plan.first
  pub lines : (client place : ℕ) (step : Step) → slice_get (lines_of plan client) place ≡ Some step → RegistersNone step.command

-- whatever is shown happens in the schedule that is shown with it
pub record IsTrue (plan : Lines) (found : Found) : Type 0 where
  pub given : All (λ (g : Given). IsAnswered plan g.schedule.items g.client g.place g.answer) found.given.items
  pub ended : All (λ (g : Given). IsEndAnswered plan g.schedule.items g.place g.answer) found.ended.items
  pub races : All (λ (r : Race). IsRace plan r.schedule.items r.one r.other) found.races.items
  pub stuck : IfSome found.stuck (λ shown. (now : Standing) × ComesTo plan shown.items now × IsStuck plan now)

-- not the same answer of the same line
abbrev pub IsOther : Given → Given → Type 0
IsOther g h = g.client ≡ h.client → g.place ≡ h.place → g.answer ≡ h.answer → ⊥

-- not of the same two accesses
abbrev pub IsOtherRace : Race → Race → Type 0
IsOtherRace r s = r.one ≡ s.one → r.other ≡ s.other → ⊥

-- each answer of a line is listed once, and each two accesses that race
pub record ListsOnce (found : Found) : Type 0 where
  pub given : AllPairs IsOther found.given.items
  pub ended : AllPairs IsOther found.ended.items
  pub races : AllPairs IsOtherRace found.races.items

-- the schedule that is shown as one that gets stuck
abbrev pub stuck_of : Found → Option (List ℕ)
stuck_of found = option_map (λ (v : Vec ℕ Global). v.items) found.stuck

-- no schedule gets stuck sooner than the schedule that is shown
abbrev pub IsShortest : Lines → Found → Type 0
IsShortest plan found = (shown : List ℕ) (schedule : Schedule) (now : Standing)
    → stuck_of found ≡ Some shown → ComesTo plan schedule now → IsStuck plan now → length shown ≤ length schedule

-- a schedule leads to the standing
abbrev pub IsReachable : Lines → Standing → Type 0
IsReachable plan now = (schedule : Schedule) × ComesTo plan schedule now

-- There are that many standings that schedules lead to, and they are enough to know where every schedule leads: each answer of a line
-- is given at one of them, and where no client can go, one of them continues alike.
pub record Suffice (plan : Lines) (states : ℕ) : Type 0 where
  pub asked : List ℕ → Bool
  pub may : MayAsk asked plan
  pub kept : List Standing
  pub count : length kept ≡ states
  pub reached : All (IsReachable plan) kept
  pub answered : (schedule : Schedule) (client place : ℕ) (given : Answer)
      → IsAnswered plan schedule client place given → AnswersThere plan kept client place given
  pub last : (schedule : Schedule) (now : Standing) → ComesTo plan schedule now → IsLast plan now → HasAlike asked kept now

-- no more states were visited than the bound, and enough if every schedule was covered
pub record HasVisited (plan : Lines) (bound : ℕ) (found : Found) : Type 0 where
  pub within : found.states ≤ bound
  pub enough : found.covered ≡ true → Suffice plan found.states

-- the client's line at this place is listed with this answer
abbrev pub Lists : List Given → ℕ → ℕ → Answer → Type 0
Lists given client place answer =
    (g : Given) × Contains given g × (g.client ≡ client) × (g.place ≡ place) × (g.answer ≡ answer)

-- a race of the two accesses is listed
abbrev pub ListsRace : List Race → ℕ → ℕ → Type 0
ListsRace races one other = (r : Race) × Contains races r × (r.one ≡ one) × (r.other ≡ other)

-- Nothing else happens in any schedule: each answer of each line is listed, and each race. If a schedule gets stuck, one is shown, and
-- none gets stuck sooner.
pub record IsAll (plan : Lines) (found : Found) : Type 0 where
  pub given : (schedule : Schedule) (client place : ℕ) (answer : Answer)
      → IsAnswered plan schedule client place answer → Lists found.given.items client place answer
  pub ended : (schedule : Schedule) (place : ℕ) (answer : Answer)
      → IsEndAnswered plan schedule place answer → Lists found.ended.items (length plan.clients) place answer
  pub races : (schedule : Schedule) (one other : ℕ) → IsRace plan schedule one other → ListsRace found.races.items one other
  pub stuck : (schedule : Schedule) (now : Standing) → ComesTo plan schedule now → IsStuck plan now
      → (shown : List ℕ) × (stuck_of found ≡ Some shown) × (length shown ≤ length schedule)
