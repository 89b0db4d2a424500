-- The rows of a plan: its lines that say something.
use Rattle.std.specs.Prelude.{ℕ, ◌+◌, ◌==◌, ◌||◌, ◌&&◌, not, is_some, Bool, true, false, if◌then◌else◌, List, [], ◌∷◌, ◌++◌, Option, None, Some}
use Rattle.command_core.specs.declared.command.Command.{Command}
use Rattle.explore_report.specs.declared.context.Context.{Context}
use Rattle.explore_report.specs.declared.context.Section.{Section}
use Rattle.explore_report.specs.declared.context.Section.TheVariants as section
use Rattle.explore_report.specs.declared.mark.Mark.{Mark}
use Rattle.explore_report.specs.declared.mark.Mark.TheVariants as mark
use Rattle.explore_report.specs.declared.row.Row.{Row}
use Rattle.explore_report.specs.Context.{after, is_innermost, is_same, start}
use Rattle.explore_report.specs.Mark.{mark_of}

abbrev pub row_if : Context → ℕ → Option Mark → List Row
row_if at number None = []
row_if at number (Some said) = record { number = number; context = at; mark = said } ∷ []

-- the row of a line with that number and context
abbrev pub rows_at : Context → ℕ → List ℕ → List Row
rows_at at number line = row_if at number (mark_of line)

abbrev pub after_if : Context → Option Mark → Context
after_if at None = at
after_if at (Some said) = after at said

-- the context of the line below
abbrev pub context_below : Context → List ℕ → Context
context_below at line = after_if at (mark_of line)

-- the rows of lines; the first line has that number and context
abbrev pub rows_from : Context → ℕ → List (List ℕ) → List Row
rows_from at number [] = []
rows_from at number (line ∷ lines) = rows_at at number line ++ rows_from (context_below at line) (number + 1) lines

-- the rows of all lines of a plan
abbrev pub rows_of : List (List ℕ) → List Row
rows_of lines = rows_from start 1 lines

abbrev pub command_said : Mark → Option Command
command_said (mark.Command command) = Some command
command_said _ = None

-- the command of a row, if it is in that section
abbrev pub command_in : Section → Row → Option Command
command_in section row = if is_same row.context.section section then command_said row.mark else None

abbrev pub is_if : Mark → Bool
is_if mark.If = true
is_if _ = false

abbrev pub is_else : Mark → Bool
is_else mark.Else = true
is_else _ = false

abbrev pub is_end : Mark → Bool
is_end mark.End = true
is_end _ = false

abbrev pub is_in_client : Section → Bool
is_in_client section.First = false
is_in_client (section.Client number) = true
is_in_client section.Last = false

-- whether a row is a line of a client
abbrev pub is_line : Row → Bool
is_line row = is_some (command_said row.mark) && is_in_client row.context.section

-- the row is the `#end` of a branch, and not of an `#atomic`
abbrev pub ends_branch : Row → Bool
ends_branch row = is_end row.mark && not (is_innermost row.context.depth row.context.atomic)

-- the row ends a part of a branch in which that many `#if` are open
abbrev pub ends_part : ℕ → Row → Bool
ends_part depth row = (is_else row.mark || ends_branch row) && (row.context.depth == depth)
