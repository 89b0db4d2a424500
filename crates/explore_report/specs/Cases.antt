-- The answers that are found of a plan's lines, each with what is wrong with it.
use Rattle.std.specs.Prelude.{ℕ, zero, suc, ◌+◌, ◌==◌, ◌&&◌, Bool, if◌then◌else◌, List, [], ◌∷◌, ◌++◌, length, Option, None, Some, is_some, slice_get}
use Rattle.std.specs.List.{flat_map}
use Rattle.command_core.specs.declared.answer.Answer.{Answer}
use Rattle.desk_core.specs.theorem.World.{empty_world}
use Rattle.report_core.specs.Answer.{text_of}
use Rattle.explore_core.specs.Alike.{answers_along}
use Rattle.explore_core.specs.declared.found.Found.{Found}
use Rattle.explore_core.specs.declared.found.Given.{Given}
use Rattle.explore_report.specs.declared.case.Case.{Case}
use Rattle.explore_report.specs.declared.context.Section.{Section}
use Rattle.explore_report.specs.declared.context.Section.TheVariants as section
use Rattle.explore_report.specs.declared.finding.Finding.{Finding}
use Rattle.explore_report.specs.declared.plan_script.PlanScript.{PlanScript}
use Rattle.explore_report.specs.declared.row.Row.{Row}
use Rattle.explore_report.specs.Finding.{finding_of}
use Rattle.explore_report.specs.Rows.{command_in}

-- what a function gives of each element by its place; the first element has that place
abbrev pub by_place : {X Y : Type 0} → (ℕ → X → List Y) → ℕ → List X → List Y
by_place f place [] = []
by_place f place (x ∷ xs) = f place x ++ by_place f (place + 1) xs

abbrev pub index_at : Section → ℕ → Row → List ℕ
index_at section index row = if is_some (command_in section row) then index ∷ [] else []

-- the indices of the rows with a section's commands
abbrev pub command_rows : Section → List Row → List ℕ
command_rows section rows = by_place (index_at section) 0 rows

-- an answer to a row's command: its text, what is wrong with it, and the clients that go before
pub record Judged : Type 0 where
  pub row : ℕ
  pub text : List ℕ
  pub finding : Option Finding
  pub schedule : List ℕ

abbrev pub judged_of : Case → Judged
judged_of c = record { row = c.row; text = c.text.items; finding = c.finding; schedule = c.schedule.items }

abbrev pub judged : PlanScript → ℕ → Answer → List ℕ → Judged
judged p index given schedule =
    record { row = index; text = text_of 0 given; finding = finding_of p index given; schedule = schedule }

-- the answer is listed of the client's line of that place
abbrev pub is_of : ℕ → ℕ → Given → Bool
is_of client place g = (g.client == client) && (g.place == place)

abbrev pub case_at : PlanScript → ℕ → ℕ → ℕ → Given → List Judged
case_at p client place index g = if is_of client place g then judged p index g.answer g.schedule.items ∷ [] else []

-- the answers that are listed of the client's line of that place, which is the row of that index
abbrev pub line_cases : PlanScript → List Given → ℕ → ℕ → ℕ → List Judged
line_cases p given client place index = flat_map (case_at p client place index) given

-- the answers that are listed of a section's commands, in order: the command at each place is the client's line of that place
abbrev pub section_cases : PlanScript → List Given → ℕ → Section → List Judged
section_cases p given client section = by_place (line_cases p given client) 0 (command_rows section p.rows.items)

-- the answers of the first clients
abbrev pub client_cases : PlanScript → List Given → ℕ → List Judged
client_cases p given zero = []
client_cases p given (suc client) =
    client_cases p given client ++ section_cases p given client (section.Client client)

abbrev pub case_of_row : PlanScript → Option ℕ → Answer → List Judged
case_of_row p None given = []
case_of_row p (Some index) given = judged p index given [] ∷ []

abbrev pub first_case : PlanScript → List ℕ → ℕ → Answer → List Judged
first_case p rows place given = case_of_row p (slice_get rows place) given

-- each command above the first client has one answer, whatever the schedule
abbrev pub first_cases : PlanScript → List Answer → List Judged
first_cases p given = by_place (first_case p (command_rows section.First p.rows.items)) 0 given

-- All answers in order: of the first section's commands, of each client's lines, and of the last section's commands, which `found`
-- lists under the number of clients.
abbrev pub cases_of : PlanScript → Found → List Judged
cases_of p found =
    first_cases p (answers_along empty_world p.plan.first)
    ++ client_cases p found.given.items (length p.plan.clients)
    ++ section_cases p found.ended.items (length p.plan.clients) section.Last
