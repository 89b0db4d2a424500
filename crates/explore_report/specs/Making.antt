-- The commands that a schedule makes, and where it leads.
use Rattle.std.specs.Prelude.{◌≡◌, ℕ, List, [], ◌∷◌, ◌++◌, replicate, slice_get, Option, None, Some}
use Rattle.command_core.specs.declared.command.Command.{Command}
use Rattle.desk_core.specs.theorem.Desk.{HasHistory}
use Rattle.desk_core.specs.theorem.World.{empty_world}
use Rattle.explore_core.specs.Alike.{answers_along}
use Rattle.explore_core.specs.Schedule.{Lines, Schedule, Standing, after_line, beginning, history_along, next_line}
use Rattle.explore_core.specs.declared.plan.Step.{Step}
use Rattle.explore_report.specs.declared.context.Section.{Section}
use Rattle.explore_report.specs.declared.context.Section.TheVariants as section
use Rattle.explore_report.specs.declared.plan_script.PlanScript.{PlanScript}
use Rattle.explore_report.specs.declared.row.Row.{Row}
use Rattle.explore_report.specs.declared.schedule.Making.{Making}

abbrev pub command_of : Option Step → List Command
command_of None = []
command_of (Some step) = step.command ∷ []

abbrev pub after_step : Standing → ℕ → Option Step → Standing
after_step now client None = now
after_step now client (Some step) = after_line now client step

-- the command of the line that the client comes to, unless it is done
abbrev pub command_at : Lines → Standing → ℕ → List Command
command_at plan now client = command_of (next_line plan now client)

-- The standing once the client has made that line. A report also shows lines with which clients wait: these are refused, and count as
-- made here.
abbrev pub standing_with : Lines → Standing → ℕ → Standing
standing_with plan now client = after_step now client (next_line plan now client)

-- the commands of the lines that the clients come to, one after another
abbrev pub commands_along : Lines → Standing → Schedule → List Command
commands_along plan now [] = []
commands_along plan now (client ∷ clients) = command_at plan now client ++ commands_along plan (standing_with plan now client) clients

abbrev pub standing_along : Lines → Standing → Schedule → Standing
standing_along plan now [] = now
standing_along plan now (client ∷ clients) = standing_along plan (standing_with plan now client) clients

-- where a schedule leads
abbrev pub standing_to : Lines → Schedule → Standing
standing_to plan schedule = standing_along plan (beginning plan) schedule

-- the commands that come first, and the commands of a schedule's lines
abbrev pub commands_to : Lines → Schedule → List Command
commands_to plan schedule = plan.first ++ commands_along plan (beginning plan) schedule

-- the commands up to the line that a client comes to after a schedule
abbrev pub commands_with : Lines → Schedule → ℕ → List Command
commands_with plan schedule client = commands_to plan schedule ++ command_at plan (standing_to plan schedule) client

-- the standing of a fresh desk, before the commands that come first
abbrev pub fresh : ℕ → Standing
fresh clients = record { made = replicate clients 0; history = [] }

-- the standing after commands of no client
abbrev pub standing_past : Standing → List Command → Standing
standing_past now commands = record { made = now.made; history = history_along now.history commands }

-- The desk has answered these commands, which come to that standing; each client has made as many lines as at the standing.
pub record HasMade (commands : List Command) (now : Standing) (making : Making) : Type 0 where
  pub desk : HasHistory making.desk now.history
  pub made : making.made.items ≡ now.made
  pub answers : making.answers.items ≡ answers_along empty_world commands
  pub history : now.history ≡ history_along [] commands

-- the desk has answered the commands that come first, and the commands of a schedule's lines
abbrev pub HasFollowed : Lines → Schedule → Making → Type 0
HasFollowed plan schedule making = HasMade (commands_to plan schedule) (standing_to plan schedule) making

abbrev pub section_of : Option Row → Section
section_of None = section.Last
section_of (Some row) = row.context.section

-- the section of the row of that index
abbrev pub section_at : PlanScript → ℕ → Section
section_at p index = section_of (slice_get p.rows.items index)

-- the command of the line that the section's client comes to
abbrev pub own_command : Lines → Standing → Section → List Command
own_command plan now section.First = []
own_command plan now (section.Client client) = command_at plan now client
own_command plan now section.Last = []

abbrev pub own_standing : Lines → Standing → Section → Standing
own_standing plan now section.First = now
own_standing plan now (section.Client client) = standing_with plan now client
own_standing plan now section.Last = now

-- the commands of a schedule, and the line of that section that is answered after it
abbrev pub case_commands : Lines → Section → Schedule → List Command
case_commands plan section schedule = commands_to plan schedule ++ own_command plan (standing_to plan schedule) section

-- the standing after them
abbrev pub case_standing : Lines → Section → Schedule → Standing
case_standing plan section schedule = own_standing plan (standing_to plan schedule) section
