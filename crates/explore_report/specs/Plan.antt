-- The plan that rows make.
use Rattle.std.specs.Prelude.{ℕ, ◌+◌, ◌==◌, not, Bool, true, false, if◌then◌else◌, List, [], ◌∷◌, ◌++◌, length, take, drop, position, slice_get, Option, None, Some, option_map, unwrap_or}
use Rattle.std.specs.List.{flat_map}
use Rattle.std.specs.Option.{option_and_then, option_to_list}
use Rattle.command_core.specs.declared.command.Command.{Command}
use Rattle.command_core.specs.declared.command.Command.TheVariants as command
use Rattle.explore_core.specs.Branch.{Branching}
use Rattle.explore_core.specs.declared.access.Access.{Access}
use Rattle.explore_core.specs.Schedule.{Lines}
use Rattle.explore_core.specs.declared.expects.Expects.{Expects}
use Rattle.explore_core.specs.declared.expects.Expects.TheVariants.{Any}
use Rattle.explore_core.specs.declared.plan.Milestone.{Milestone}
use Rattle.explore_core.specs.declared.plan.Step.{Step}
use Rattle.explore_report.specs.declared.context.Above.{Above}
use Rattle.explore_report.specs.declared.context.Above.TheVariants as above
use Rattle.explore_report.specs.declared.context.Section.{Section}
use Rattle.explore_report.specs.declared.context.Section.TheVariants as section
use Rattle.explore_report.specs.declared.mark.Mark.{Mark}
use Rattle.explore_report.specs.declared.mark.Mark.TheVariants as mark
use Rattle.explore_report.specs.declared.purpose.Purpose.{Purpose}
use Rattle.explore_report.specs.declared.purpose.Purpose.TheVariants as purpose
use Rattle.explore_report.specs.declared.row.Row.{Row}
use Rattle.explore_report.specs.declared.way.Way.{Way}
use Rattle.explore_report.specs.declared.way.Way.TheVariants as way
use Rattle.explore_report.specs.Accesses.{access_at, lines_in}
use Rattle.explore_report.specs.Cases.{by_place}
use Rattle.explore_report.specs.Context.{is_continued, next_client}
use Rattle.explore_report.specs.Expected.{expects, expects_below}
use Rattle.explore_report.specs.Lines.{text_at}
use Rattle.explore_report.specs.Mark.{branch_text}
use Rattle.explore_report.specs.Mistake.{depth_below, marks}
use Rattle.explore_report.specs.Rows.{command_in, ends_part, is_else, is_end, is_if, is_line}

-- the command of a row of that section
abbrev pub commands_at : Section → Row → List Command
commands_at section row = option_to_list (command_in section row)

-- the commands of a section
abbrev pub commands_in : Section → List Row → List Command
commands_in section rows = flat_map (commands_at section) rows

-- a `wait` waits unless `#once` is directly above it, and so does a line directly below `#await`
abbrev pub waits : Above → Command → Bool
waits above.Await c = true
waits above.Once c = false
waits _ (command.Wait f) = true
waits _ _ = false

-- below a row that a client comes to: an `#else` ends the lines of its `#if`, so the client passes the other lines
abbrev pub way_past : Row → Way
way_past row = if is_else row.mark then way.Passes row.context.depth else if is_end row.mark then way.Comes else way.Stays

-- the way below a row
abbrev pub way_below : Way → Row → Way
way_below way.Comes row = way_past row
way_below (way.Passes depth) row = if ends_part depth row then way.Comes else way.Passes depth
way_below way.Stays row = way.Stays

abbrev pub lines_at : Row → ℕ
lines_at row = if is_line row then 1 else 0

-- the client has come to its line
abbrev pub is_settled : Way → Bool
is_settled way.Stays = true
is_settled _ = false

-- how many lines the client leaves out at a row
abbrev pub passed_at : Way → Row → ℕ
passed_at way.Comes row = 0
passed_at (way.Passes depth) row = lines_at row
passed_at way.Stays row = 0

-- how many lines the client leaves out among the rows before it makes one
abbrev pub left_out : Way → List Row → ℕ
left_out to [] = 0
left_out to (row ∷ rows) = passed_at to row + left_out (way_below to row) rows

-- the first line of an answer that an `#if` names, with its line feed
abbrev pub branch_line : List (List ℕ) → Row → List ℕ
branch_line lines row = branch_text (text_at lines row.number) ++ 10 ∷ []

-- A line below which the client leaves lines out, whatever the answer: the other lines of an `#else`. No answer has an empty first line.
abbrev pub jump : ℕ → ℕ → Option Branching
jump above passed = if passed == 0 then None else Some (record { text = []; otherwise = above + passed })

-- The branch of an `#if`, which has these rows below it, and that many lines of its client above. After any other answer the client
-- continues behind the lines up to the `#else` or the `#end`. If the `#if` has no lines, the client jumps over what it would pass anyway.
abbrev pub branch_of : List (List ℕ) → ℕ → Row → List Row → Option Branching
branch_of lines above row below =
    if left_out way.Comes below == 0
    then Some (record { text = branch_line lines row; otherwise = above + left_out (way.Passes (depth_below row)) below })
    else jump above (left_out way.Comes below)

abbrev pub branch_at : List (List ℕ) → ℕ → List Row → Option Branching
branch_at lines above [] = None
branch_at lines above (row ∷ below) =
    if is_if row.mark then branch_of lines above row below else jump above (left_out way.Comes (row ∷ below))

-- the rows from the first on that expects no answer
abbrev pub after_notes : List Row → List Row
after_notes rows = drop (unwrap_or (position (λ row. not (expects row)) rows) (length rows)) rows

-- the branch that begins directly below a line with these rows below it, and below the notes that expect the line's answer
abbrev pub branch_below : List (List ℕ) → ℕ → List Row → Option Branching
branch_below lines above rows = branch_at lines above (after_notes rows)

abbrev pub milestone_at : Section → ℕ → Option Milestone
milestone_at (section.Client client) place = Some (record { client = client; place = place })
milestone_at _ place = None

-- the line below a row, which is of the row's client; its place is the number of the client's lines above the row
abbrev pub line_below : List Row → ℕ → Row → Option Milestone
line_below rows index row = milestone_at row.context.section (lines_in row.context.section (take index rows))

abbrev pub marked_at : List Row → ℕ → Option Milestone
marked_at rows index = option_and_then (line_below rows index) (slice_get rows index)

abbrev pub mark_at : List ℕ → List Row → Option ℕ
mark_at name rows = position (marks name) rows

-- the line that the rows mark by that name
abbrev pub marked_line : List Row → List ℕ → Option Milestone
marked_line rows name = option_and_then (marked_at rows) (mark_at name rows)

-- the marked line behind which the line of a row comes
abbrev pub line_before : List Row → Row → Option Milestone
line_before rows row = option_and_then (marked_line rows) row.context.follows

-- to predict, a schedule ends at a line whose answer is not expected, and goes on after any answer otherwise
abbrev pub expects_for : Purpose → List (List ℕ) → List Row → Expects
expects_for purpose.Decide lines below = Any
expects_for purpose.Predict lines below = expects_below lines below

-- the line of a row that has that place among its client's lines, and these rows below it; all rows have the marks
abbrev pub step_of : Purpose → List (List ℕ) → List Row → ℕ → Row → List Row → Command → Step
step_of aim lines rows place row below command = record {
  command = command;
  waits = waits row.context.above command;
  branch = branch_below lines (place + 1) below;
  after = line_before rows row;
  joined = is_continued row.context.atomic;
  expects = expects_for aim lines below;
  turn = unwrap_or row.context.turn row.number;
}

-- the line of a row, if the row is in that section; it has that place among the section's lines, and these rows below it
abbrev pub steps_at : Purpose → List (List ℕ) → List Row → Section → ℕ → Row → List Row → List Step
steps_at aim lines rows section place row below = option_to_list (option_map (step_of aim lines rows place row below) (command_in section row))

-- the section's lines from the line of that place on, which these of all rows have
abbrev pub steps_from : Purpose → List (List ℕ) → List Row → Section → ℕ → List Row → List Step
steps_from aim lines rows section place [] = []
steps_from aim lines rows section place (row ∷ below) =
    let own = steps_at aim lines rows section place row below in
    own ++ steps_from aim lines rows section (place + length own) below

-- the lines of a section
abbrev pub steps_in : Purpose → List (List ℕ) → Section → List Row → List Step
steps_in aim lines section rows = steps_from aim lines rows section 0 rows

abbrev pub lines_begun : Purpose → List (List ℕ) → List Row → Section → Mark → List (List Step)
lines_begun aim lines rows section (mark.Client name) = steps_in aim lines (next_client section) rows ∷ []
lines_begun aim lines rows section _ = []

-- the lines of the client that the row begins
abbrev pub clients_at : Purpose → List (List ℕ) → List Row → Row → List (List Step)
clients_at aim lines rows row = lines_begun aim lines rows row.context.section row.mark

-- the lines of each client, in order
abbrev pub clients_in : Purpose → List (List ℕ) → List Row → List (List Step)
clients_in aim lines rows = flat_map (clients_at aim lines rows) rows

-- the accesses of clients, in the order of their first notes
abbrev pub accesses_of : List Row → List Access
accesses_of rows = by_place (access_at rows) 0 rows

-- the commands above the first client, the lines of each client, the commands below `#finally`, and what clients access
abbrev pub plan_of : Purpose → List (List ℕ) → List Row → Lines
plan_of aim lines rows = record {
  first = commands_in section.First rows;
  clients = clients_in aim lines rows;
  last = commands_in section.Last rows;
  accesses = accesses_of rows;
}
