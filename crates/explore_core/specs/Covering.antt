-- Standings that continue alike, and what they are asked.
use Rattle.std.specs.Prelude.{◌≡◌, ℕ, Bool, true, List, All, Contains, Some, slice_get}
use Rattle.command_core.specs.declared.answer.Answer.{Answer}
use Rattle.desk_core.specs.theorem.History.{world_of}
use Rattle.explore_core.specs.declared.plan.Step.{Step}
use Rattle.explore_core.specs.Alike.{AsksOnly, AreAlike}
use Rattle.explore_core.specs.Schedule.{Lines, Standing, lines_of, next_line, made_by, can_be_made, answer_now, MayGo}

-- the lines of clients, and the commands at the end, ask what a file lists only of these files, and ask for no report
pub record MayAsk (asked : List ℕ → Bool) (plan : Lines) : Type 0 where
  pub lines : (client place : ℕ) (step : Step) → slice_get (lines_of plan client) place ≡ Some step → AsksOnly asked step.command
  pub last : All (AsksOnly asked) plan.last

-- in both, each client is at the same line, and the worlds are alike
pub record GoOnAlike (asked : List ℕ → Bool) (now other : Standing) : Type 0 where
  pub made : now.made ≡ other.made
  pub worlds : AreAlike asked (world_of now.history) (world_of other.history)

-- one of the kept standings continues as this standing does
abbrev pub HasAlike : (List ℕ → Bool) → List Standing → Standing → Type 0
HasAlike asked kept now = (other : Standing) × Contains kept other × GoOnAlike asked now other

-- at a kept standing the client may go, makes its line at this place, and gets this answer
pub record AnswersThere (plan : Lines) (kept : List Standing) (client place : ℕ) (given : Answer) : Type 0 where
  pub now : Standing
  pub there : Contains kept now
  pub may : MayGo plan now.made client
  pub at : made_by now client ≡ place
  pub step : Step
  pub next : next_line plan now client ≡ Some step
  pub made : can_be_made now step ≡ true
  pub answer : given ≡ answer_now now.history step.command
