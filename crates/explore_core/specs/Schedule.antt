-- The schedules of a plan.
use Rattle.std.specs.Prelude.{◌≡◌, ℕ, ◌+◌, nat_lt, Bool, true, not, ◌&&◌, if◌then◌else◌, List, [], ◌∷◌, length, replicate, get_or, set, slice_get, take, unwrap_or, Option, None, Some, IsSome, ◌≢◌, false, ⊤}
use Rattle.std.specs.Str.{bytes_eq}
use Rattle.command_core.specs.declared.command.Command.{Command}
use Rattle.command_core.specs.declared.answer.Answer.{Answer}
use Rattle.report_core.specs.Answer.{first_line_of}
use Rattle.explore_core.specs.Branch.{Branching}
use Rattle.explore_core.specs.Expects.{is_expected}
use Rattle.explore_core.specs.declared.access.Access.{Access}
use Rattle.explore_core.specs.declared.plan.Milestone.{Milestone}
use Rattle.explore_core.specs.declared.plan.Step.{Step}
use Rattle.desk_core.specs.theorem.Answer.{answer_to, is_refused}
use Rattle.desk_core.specs.theorem.History.{world_of, history_after}

-- the commands that come first, the lines of each client, the commands at the end, and what clients access
pub record Lines : Type 0 where
  pub first : List Command
  pub clients : List (List Step)
  pub last : List Command
  pub accesses : List Access

-- how many lines each client has made or skipped, and the commands accepted so far
pub record Standing : Type 0 where
  pub made : List ℕ
  pub history : List Command

-- what a command is answered now. Memory is the machine's matter, and not the plan's
abbrev pub answer_now : List Command → Command → Answer
answer_now history command = answer_to (world_of history) command

-- the history after a command
abbrev pub history_with : List Command → Command → List Command
history_with history command = history_after history command (answer_now history command)

-- the history after commands, one after another
abbrev pub history_along : List Command → List Command → List Command
history_along history [] = history
history_along history (c ∷ cs) = history_along (history_with history c) cs

-- the first commands are made, and no line of a client
abbrev pub beginning : Lines → Standing
beginning plan = record { made = replicate (length plan.clients) 0; history = history_along [] plan.first }

abbrev pub lines_of : Lines → ℕ → List Step
lines_of plan client = unwrap_or (slice_get plan.clients client) []

abbrev pub made_by : Standing → ℕ → ℕ
made_by now client = get_or now.made client 0

-- the client's next line, unless it is done
abbrev pub next_line : Lines → Standing → ℕ → Option Step
next_line plan now client = slice_get (lines_of plan client) (made_by now client)

-- the milestone's client has made or skipped the line there
abbrev pub is_past : List ℕ → Milestone → Bool
is_past made milestone = nat_lt milestone.place (get_or made milestone.client 0)

-- a line that comes after a milestone is due once the milestone is passed, any other at any time
abbrev pub is_due : List ℕ → Option Milestone → Bool
is_due made None = true
is_due made (Some milestone) = is_past made milestone

-- a line can be made once it is due, and a line that waits only if it would be accepted
abbrev pub can_be_made : Standing → Step → Bool
can_be_made now step = is_due now.made step.after && not (step.waits && is_refused (answer_now now.history step.command))

-- The client makes the lines of the branch: its line is the first of the answer's text. The text of a command's answer shows no number
-- of a line, so any number will do.
abbrev pub is_taken : Branching → Answer → Bool
is_taken branch given = bytes_eq (first_line_of 0 given) branch.text

abbrev pub place_by : Option Branching → ℕ → Answer → ℕ
place_by None place given = place + 1
place_by (Some branch) place given = if is_taken branch given then place + 1 else branch.otherwise

-- the place of the client's next line, after the line at this place has got that answer
abbrev pub place_after : Step → ℕ → Answer → ℕ
place_after step place given = place_by step.branch place given

abbrev pub after_line : Standing → ℕ → Step → Standing
after_line now client step = record {
  made = set now.made client (place_after step (made_by now client) (answer_now now.history step.command));
  history = history_with now.history step.command;
}

abbrev pub made_line : Standing → ℕ → Option Step → Option Standing
made_line now client None = None
made_line now client (Some step) = if can_be_made now step then Some (after_line now client step) else None

-- the client makes its next line, if it can
abbrev pub after_one : Lines → Standing → ℕ → Option Standing
after_one plan now client = made_line now client (next_line plan now client)

-- a schedule says which client goes, one after another
abbrev pub Schedule : Type 0
Schedule = List ℕ

-- from one standing on, the clients can go in the order of the schedule, which leads to the other standing
abbrev pub Leads : Lines → Standing → Schedule → Standing → Type 0
Leads plan from [] to = from ≡ to
Leads plan from (client ∷ clients) to = (next : Standing) × (after_one plan from client ≡ Some next) × Leads plan next clients to

-- the line is one step with the client's line above it
abbrev pub is_joined : Option Step → Bool
is_joined None = false
is_joined (Some step) = step.joined

-- the client is inside a block: its next line is one step with the line above it
abbrev pub is_in_block : Lines → List ℕ → ℕ → Bool
is_in_block plan made client = is_joined (slice_get (lines_of plan client) (get_or made client 0))

-- no other client is inside a block
abbrev pub MayGo : Lines → List ℕ → ℕ → Type 0
MayGo plan made client = (other : ℕ) → other ≢ client → is_in_block plan made other ≡ false

-- the answer of the client's next line is expected
abbrev pub IsExpected : Lines → Standing → ℕ → Type 0
IsExpected plan now client = (step : Step) →
    next_line plan now client ≡ Some step → is_expected (answer_now now.history step.command) step.expects ≡ true

-- the client may go, and a schedule goes on after its line
pub record GoesOn (plan : Lines) (now : Standing) (client : ℕ) : Type 0 where
  pub may : MayGo plan now.made client
  pub expected : IsExpected plan now client

-- the schedule goes on after each of its lines
abbrev pub Counts : Lines → Standing → Schedule → Type 0
Counts plan now [] = ⊤
Counts plan now (client ∷ clients) =
    GoesOn plan now client × ((next : Standing) → after_one plan now client ≡ Some next → Counts plan next clients)

-- from the beginning of the plan, the schedule leads to that standing: each client may go, and the answers are expected
pub record ComesTo (plan : Lines) (schedule : Schedule) (to : Standing) : Type 0 where
  pub leads : Leads plan (beginning plan) schedule to
  pub counts : Counts plan (beginning plan) schedule

-- no client that may go can make its next line
abbrev pub IsLast : Lines → Standing → Type 0
IsLast plan now = (client : ℕ) → MayGo plan now.made client → after_one plan now client ≡ None

-- no client that may go can make its next line, though one of them is not done
pub record IsStuck (plan : Lines) (now : Standing) : Type 0 where
  pub nobody : (client : ℕ) → MayGo plan now.made client → after_one plan now client ≡ None
  pub waiting : (client : ℕ) × IsSome (next_line plan now client)

-- After the schedule the client makes its line at this place, and gets this answer. Whether a schedule goes on after it is another matter.
pub record IsAnswered (plan : Lines) (schedule : Schedule) (client place : ℕ) (given : Answer) : Type 0 where
  pub now : Standing
  pub comes : ComesTo plan schedule now
  pub may : MayGo plan now.made client
  pub at : made_by now client ≡ place
  pub step : Step
  pub next : next_line plan now client ≡ Some step
  pub made : can_be_made now step ≡ true
  pub answer : given ≡ answer_now now.history step.command

-- after the schedule every client is done, and the command at this place among the commands at the end gets this answer
pub record IsEndAnswered (plan : Lines) (schedule : Schedule) (place : ℕ) (given : Answer) : Type 0 where
  pub now : Standing
  pub comes : ComesTo plan schedule now
  pub done : (client : ℕ) → next_line plan now client ≡ None
  pub command : Command
  pub at : slice_get plan.last place ≡ Some command
  pub answer : given ≡ answer_now (history_along now.history (take place plan.last)) command
