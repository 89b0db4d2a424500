-- A line that goes before lines of other clients.
use Rattle.std.specs.Prelude.{◌≡◌, ◌≢◌, ℕ, Bool, true, List, [], ◌∷◌, ◌++◌, Option, None, Some, ⊤}
use Rattle.command_core.specs.declared.command.Command.{Command}
use Rattle.command_core.specs.declared.command.Command.TheVariants as command
use Rattle.command_core.specs.declared.answer.Answer.{Answer}
use Rattle.desk_core.specs.theorem.History.{world_of}
use Rattle.explore_core.specs.declared.plan.Step.{Step}
use Rattle.explore_core.specs.Covering.{GoOnAlike}
use Rattle.explore_core.specs.Independence.{AreIndependent, Bounds, IsRoomy, IsWithin}
use Rattle.explore_core.specs.Room.{LeadsForward}
use Rattle.explore_core.specs.Schedule.{Lines, Standing, Schedule, answer_now, can_be_made, made_by, next_line, after_line, Leads}
use Rattle.explore_core.specs.Search.{standing_after}

-- a client's line at this place was given this answer
pub record LineAnswer : Type 0 where
  pub client : ℕ
  pub place : ℕ
  pub answer : Answer

abbrev pub answer_of : Standing → ℕ → Option Step → List LineAnswer
answer_of now client None = []
answer_of now client (Some step) =
    record { client = client; place = made_by now client; answer = answer_now now.history step.command } ∷ []

-- the answers along a schedule
abbrev pub answers_of : Lines → Standing → Schedule → List LineAnswer
answers_of plan now [] = []
answers_of plan now (client ∷ clients) =
    answer_of now client (next_line plan now client) ++ answers_of plan (standing_after plan now client) clients

-- if it is a `wait`, the client waits with it
abbrev pub IsPatient : Command → Bool → Type 0
IsPatient (command.Wait f) waits = waits ≡ true
IsPatient _ waits = ⊤

-- another client's next line is independent of the command and leads forward, and nothing is near its limit
pub record GoesBeside (asked : List ℕ → Bool) (bounds : Bounds) (plan : Lines) (client : ℕ) (c : Command)
    (now : Standing) (other : ℕ) : Type 0 where
  pub apart : other ≢ client
  pub roomy : IsRoomy (world_of now.history)
  pub within : IsWithin bounds (world_of now.history)
  pub independent : (line : Step) → next_line plan now other ≡ Some line → AreIndependent asked bounds c line.command
  pub patient : (line : Step) → next_line plan now other ≡ Some line → IsPatient line.command line.waits
  pub forward : (line : Step) → next_line plan now other ≡ Some line → LeadsForward (made_by now other) line

-- along the schedule only such lines are made
abbrev pub AllGoBeside : (List ℕ → Bool) → Bounds → Lines → ℕ → Command → Standing → Schedule → Type 0
AllGoBeside asked bounds plan client c now [] = ⊤
AllGoBeside asked bounds plan client c now (other ∷ others) =
    GoesBeside asked bounds plan client c now other × AllGoBeside asked bounds plan client c (standing_after plan now other) others

-- The client's line can be made after the schedule, and is answered as it is before it. If it is made before, each line of the schedule
-- is answered as it was, and the standings at the end are alike.
pub record MayGoFirst (asked : List ℕ → Bool) (plan : Lines) (client : ℕ) (step : Step)
    (now : Standing) (others : Schedule) (later : Standing) : Type 0 where
  pub next : next_line plan later client ≡ Some step
  pub can : can_be_made later step ≡ true
  pub answer : answer_now later.history step.command ≡ answer_now now.history step.command
  pub last : Standing
  pub leads : Leads plan (after_line now client step) others last
  pub answers : answers_of plan (after_line now client step) others ≡ answers_of plan now others
  pub alike : GoOnAlike asked (after_line later client step) last
