-- What a plan's clients access, by the notes `#reads`, `#writes` and `#done`.
use Rattle.std.specs.Prelude.{ℕ, ◌+◌, ◌-◌, ◌||◌, not, Bool, true, false, if◌then◌else◌, List, [], ◌∷◌, length, take, drop, count_by, is_some, position, slice_get, unwrap_or, Option, None, Some}
use Rattle.std.specs.Str.{bytes_eq}
use Rattle.explore_core.specs.declared.access.Access.{Access}
use Rattle.explore_report.specs.declared.context.Section.{Section}
use Rattle.explore_report.specs.declared.context.Section.TheVariants as section
use Rattle.explore_report.specs.declared.mark.Mark.{Mark}
use Rattle.explore_report.specs.declared.mark.Mark.TheVariants as mark
use Rattle.explore_report.specs.declared.row.Row.{Row}
use Rattle.explore_report.specs.declared.verb.Verb.{Verb}
use Rattle.explore_report.specs.declared.verb.Verb.TheVariants as verb
use Rattle.explore_report.specs.Rows.{command_in, ends_part, is_line}

abbrev pub is_done : Verb → Bool
is_done verb.Done = true
is_done _ = false

abbrev pub is_write : Verb → Bool
is_write verb.Writes = true
is_write _ = false

-- a note on an access to the buffer of that name
abbrev pub is_access : List ℕ → Mark → Bool
is_access name (mark.Access v buffer) = bytes_eq buffer name
is_access name _ = false

-- a note that ends an access
abbrev pub ends_access : Mark → Bool
ends_access (mark.Access v buffer) = is_done v
ends_access _ = false

-- the mark begins a section
abbrev pub begins_section : Mark → Bool
begins_section (mark.Client name) = true
begins_section mark.Finally = true
begins_section _ = false

-- below the row there is no more of an access to that buffer that begins where that many `#if` are open
abbrev pub stops_access : List ℕ → ℕ → Row → Bool
stops_access name depth row = is_access name row.mark || ends_part depth row || begins_section row.mark

abbrev pub stop_of : List ℕ → ℕ → List Row → Option ℕ
stop_of name depth rows = position (stops_access name depth) rows

-- the rows of an access that begins above these
abbrev pub accessed : List ℕ → ℕ → List Row → List Row
accessed name depth rows = take (unwrap_or (stop_of name depth rows) (length rows)) rows

abbrev pub ends_rightly : Option Row → Bool
ends_rightly None = false
ends_rightly (Some row) = ends_access row.mark

abbrev pub is_done_at : List Row → Option ℕ → Bool
is_done_at rows None = false
is_done_at rows (Some index) = ends_rightly (slice_get rows index)

-- the access ends with a `#done`
abbrev pub is_closed : List ℕ → ℕ → List Row → Bool
is_closed name depth rows = is_done_at rows (stop_of name depth rows)

abbrev pub open_after : List ℕ → Bool → Row → Bool
open_after name lasts row =
    if is_access name row.mark then not (ends_access row.mark) else if begins_section row.mark then false else lasts

-- The client accesses the buffer below these rows: the last note on it in its section begins an access. Above them it does, if `lasts`.
abbrev pub is_open : List ℕ → Bool → List Row → Bool
is_open name lasts [] = lasts
is_open name lasts (row ∷ rows) = is_open name (open_after name lasts row) rows

abbrev pub is_line_of : Section → Row → Bool
is_line_of section row = is_some (command_in section row)

-- how many lines the section has among the rows
abbrev pub lines_in : Section → List Row → ℕ
lines_in section rows = count_by (is_line_of section) rows

-- a client's access: it begins once the lines above are made, and ends with the last line of its rows
abbrev pub access_of : ℕ → Verb → List ℕ → ℕ → ℕ → Access
access_of client v name above lines = record {
  client = client;
  buffer = name;
  writes = is_write v;
  first = above;
  last = above + lines - 1;
}

abbrev pub accesses_by : Section → ℕ → List Row → List Row → Mark → List Access
accesses_by (section.Client client) depth above below (mark.Access v name) =
    if is_done v then []
    else access_of client v name (lines_in (section.Client client) above) (count_by is_line (accessed name depth below)) ∷ []
accesses_by _ depth above below _ = []

-- the access that the row of that index begins
abbrev pub access_at : List Row → ℕ → Row → List Access
access_at rows index row = accesses_by row.context.section row.context.depth (take index rows) (drop (index + 1) rows) row.mark
