-- Why a script is no plan.
use Rattle.std.specs.Prelude.{◌≡◌, ◌⊎◌, ◌<◌, ◌≤◌, ℕ, ◌+◌, ◌-◌, ◌&&◌, ◌||◌, ◌==◌, nat_le, nat_lt, All, Bool, true, false, if◌then◌else◌, List, [], ◌∷◌, length, take, drop, count_by, slice_get, Option, None, Some, is_some, option_map}
use Rattle.std.specs.List.{find, list_any}
use Rattle.std.specs.Option.{option_or}
use Rattle.std.specs.Str.{bytes_eq}
use Rattle.command_core.specs.declared.command.Command.{Command}
use Rattle.command_core.specs.declared.command.Command.TheVariants as command
use Rattle.explore_report.specs.declared.cause.Cause.{Cause}
use Rattle.explore_report.specs.declared.cause.Cause.TheVariants as cause
use Rattle.explore_report.specs.declared.cause.TheConstants.{LAST_CLIENT, PLAN_CLIENTS, PLAN_LINES}
use Rattle.explore_report.specs.declared.context.Above.{Above}
use Rattle.explore_report.specs.declared.context.Above.TheVariants as above
use Rattle.explore_report.specs.declared.context.Atomic.{Atomic}
use Rattle.explore_report.specs.declared.context.Atomic.TheVariants as atomic
use Rattle.explore_report.specs.declared.context.Context.{Context}
use Rattle.explore_report.specs.declared.context.Section.{Section}
use Rattle.explore_report.specs.declared.context.Section.TheVariants as section
use Rattle.explore_report.specs.declared.mark.Mark.{Mark}
use Rattle.explore_report.specs.declared.mark.Mark.TheVariants as mark
use Rattle.explore_report.specs.declared.mistake.Mistake.{Mistake}
use Rattle.explore_report.specs.declared.row.Row.{Row}
use Rattle.explore_report.specs.Accesses.{accessed, is_closed, is_done, is_open}
use Rattle.explore_report.specs.Context.{after, is_continued, is_enclosed, is_innermost, is_inside, is_same}
use Rattle.explore_report.specs.Rows.{is_else, is_if, is_line}

-- a command has to follow `#await` directly, and a `wait` has to follow `#once`; else that cause counts
abbrev pub unless_awaited : Above → Option Cause → Option Cause
unless_awaited above.Await other = Some cause.AwaitsNothing
unless_awaited above.Once other = Some cause.ChecksNothing
unless_awaited _ other = other

-- a command has to follow all notes on it; else that cause counts
abbrev pub unless_noted : Above → Option Cause → Option Cause
unless_noted above.Note other = Some cause.NotesNothing
unless_noted a other = unless_awaited a other

-- no `#if` and no `#atomic` is open where a section ends
abbrev pub unless_open : Context → Option Cause → Option Cause
unless_open at other = if is_enclosed at then Some cause.NotEnded else other

-- others never end a wait in an `#atomic` below the first line, as they don't go meanwhile
abbrev pub unless_continued : Atomic → Option Cause → Option Cause
unless_continued inside other = if is_continued inside then Some cause.WaitsInside else other

-- there can be PLAN_CLIENTS clients, all above `#finally`
abbrev pub client_below : Section → Option Cause
client_below section.First = None
client_below (section.Client number) = if nat_le LAST_CLIENT number then Some (cause.Clients PLAN_CLIENTS) else None
client_below section.Last = Some cause.ClientBelowFinally

abbrev pub finally_below : Section → Option Cause
finally_below section.First = None
finally_below (section.Client number) = None
finally_below section.Last = Some cause.FinallyTwice

-- what says when a line may be made is about a client's line
abbrev pub waiting_in : Section → Option Cause
waiting_in section.First = Some cause.AwaitOutside
waiting_in (section.Client number) = None
waiting_in section.Last = Some cause.AwaitOutside

-- branches are of clients only
abbrev pub branch_in : Section → Option Cause → Option Cause
branch_in section.First other = Some cause.BranchOutside
branch_in (section.Client number) other = other
branch_in section.Last other = Some cause.BranchOutside

-- an `#if` is about the answer to the client's command directly above
abbrev pub if_below : Above → Option Cause
if_below above.Nothing = Some cause.IfBelowNothing
if_below above.If = Some cause.IfBelowNothing
if_below _ = None

abbrev pub else_in : ℕ → Atomic → Option Cause
else_in depth inside =
    if is_innermost depth inside then Some cause.ElseOfNothing
    else if nat_lt 0 depth then None
    else Some cause.ElseOfNothing

-- some line is in an `#if`, and between it and the `#else`; an `#atomic` in it has its `#end` above the `#else`
abbrev pub else_below : Above → ℕ → Atomic → Option Cause
else_below above.If depth inside = Some cause.ElseBelowIf
else_below _ depth inside = else_in depth inside

-- an `#end` ends an `#atomic` with some line, or a branch
abbrev pub end_below : ℕ → Atomic → Option Cause
end_below depth atomic.Outside = if nat_lt 0 depth then None else Some cause.EndsNothing
end_below depth (atomic.Begins around) = Some cause.JoinsNothing
end_below depth (atomic.Continues around) = None

-- an `#atomic` is in no other
abbrev pub atomic_below : Atomic → Option Cause
atomic_below inside = if is_inside inside then Some cause.AtomicInside else None

-- an answer is expected of a command of the same section
abbrev pub expected_below : Above → Option Cause
expected_below above.Nothing = Some cause.ExpectsNothing
expected_below above.If = Some cause.ExpectsNothing
expected_below _ = None

-- a report's rows are in the order of making, which differs in every schedule
abbrev pub report_in : Section → Option Cause
report_in section.First = None
report_in (section.Client number) = Some cause.Report
report_in section.Last = Some cause.Report

-- so is the order of callbacks
abbrev pub watch_in : Section → Option Cause
watch_in section.First = Some cause.Watch
watch_in (section.Client number) = Some cause.Watch
watch_in section.Last = None

abbrev pub section_cause : Section → Command → Option Cause
section_cause section command.Report = report_in section
section_cause section (command.Watch f cookie) = watch_in section
section_cause section _ = None

abbrev pub is_wait : Command → Bool
is_wait (command.Wait f) = true
is_wait _ = false

-- a line that waits is the first of its `#atomic`
abbrev pub plain_cause : Atomic → Section → Command → Option Cause
plain_cause inside section c = if is_wait c && is_continued inside then Some cause.WaitsInside else section_cause section c

-- only a `wait` can be checked once
abbrev pub command_cause : Above → Atomic → Section → Command → Option Cause
command_cause above.Once inside section (command.Wait f) = None
command_cause above.Once inside section _ = Some cause.ChecksNothing
command_cause _ inside section c = plain_cause inside section c

abbrev pub client_cause : Context → Option Cause
client_cause at = unless_noted at.above (unless_open at (client_below at.section))

abbrev pub finally_cause : Context → Option Cause
finally_cause at = unless_noted at.above (unless_open at (finally_below at.section))

abbrev pub await_cause : Context → Option Cause
await_cause at = unless_awaited at.above (unless_continued at.atomic (waiting_in at.section))

abbrev pub once_cause : Context → Option Cause
once_cause at = unless_awaited at.above (waiting_in at.section)

-- a line has one note of that kind
abbrev pub unless_twice : Bool → Option Cause → Option Cause
unless_twice noted other = if noted then Some cause.NotedTwice else other

abbrev pub mark_cause : Context → Option Cause
mark_cause at = waiting_in at.section

abbrev pub after_cause : Context → Option Cause
after_cause at = unless_twice (is_some at.follows) (unless_continued at.atomic (waiting_in at.section))

abbrev pub turn_cause : Context → Option Cause
turn_cause at = unless_twice (is_some at.turn) (waiting_in at.section)

-- a client accesses buffers
abbrev pub access_in : Section → Option Cause
access_in section.First = Some cause.AccessOutside
access_in (section.Client number) = None
access_in section.Last = Some cause.AccessOutside

abbrev pub access_cause : Context → Option Cause
access_cause at = unless_noted at.above (access_in at.section)

abbrev pub if_cause : Context → Option Cause
if_cause at = unless_noted at.above (branch_in at.section (if_below at.above))

abbrev pub else_cause : Context → Option Cause
else_cause at = unless_noted at.above (branch_in at.section (else_below at.above at.depth at.atomic))

abbrev pub end_cause : Context → Option Cause
end_cause at = unless_noted at.above (branch_in at.section (end_below at.depth at.atomic))

abbrev pub atomic_cause : Context → Option Cause
atomic_cause at = unless_noted at.above (branch_in at.section (atomic_below at.atomic))

abbrev pub expected_cause : Context → Option Cause
expected_cause at = unless_noted at.above (expected_below at.above)

-- why the context does not allow what a line says
abbrev pub cause_of : Context → Mark → Option Cause
cause_of at (mark.Client name) = client_cause at
cause_of at mark.Finally = finally_cause at
cause_of at mark.Await = await_cause at
cause_of at mark.Once = once_cause at
cause_of at (mark.Named name) = mark_cause at
cause_of at (mark.After name) = after_cause at
cause_of at (mark.Turn number) = turn_cause at
cause_of at mark.If = if_cause at
cause_of at mark.Else = else_cause at
cause_of at mark.Atomic = atomic_cause at
cause_of at mark.End = end_cause at
cause_of at (mark.Access v name) = access_cause at
cause_of at mark.Expected = expected_cause at
cause_of at mark.OrExpected = expected_cause at
cause_of at mark.OrBegins = expected_cause at
cause_of at (mark.Command command) = command_cause at.above at.atomic at.section command
cause_of at (mark.Wrong why) = Some why

-- the row of that index is this one
abbrev pub IsRow : List Row → ℕ → Row → Type 0
IsRow rows index row = slice_get rows index ≡ Some row

-- the row's context allows what it says
abbrev pub IsPlaced : Row → Type 0
IsPlaced row = cause_of row.context row.mark ≡ None

-- the row's context does not allow what it says, and it is the first such row
pub record IsMisplaced (rows : List Row) (m : Mistake) : Type 0 where
  pub index : ℕ
  pub row : Row
  pub at : IsRow rows index row
  pub line : m.line ≡ row.number
  pub why : cause_of row.context row.mark ≡ Some m.cause
  pub first : All IsPlaced (take index rows)

-- whether a row begins the lines of a client with that name
abbrev pub is_named : List ℕ → Mark → Bool
is_named name (mark.Client other) = bytes_eq other name
is_named name _ = false

abbrev pub is_client_named : List ℕ → Row → Bool
is_client_named name row = is_named name row.mark

-- some row begins the lines of a client with that name
abbrev pub has_client : List Row → List ℕ → Bool
has_client rows name = list_any (is_client_named name) rows

-- whether a row marks a line by that name
abbrev pub is_marked : List ℕ → Mark → Bool
is_marked name (mark.Named other) = bytes_eq other name
is_marked name _ = false

abbrev pub marks : List ℕ → Row → Bool
marks name row = is_marked name row.mark

abbrev pub section_of : Row → Section
section_of row = row.context.section

-- the section in which the rows have the mark of that name
abbrev pub marked_in : List ℕ → List Row → Option Section
marked_in name rows = option_map section_of (find (marks name) rows)

-- the line behind which a line of that section comes has a mark, and is another client's
abbrev pub order_cause : Section → Option Section → Option Cause
order_cause own None = Some cause.NoMark
order_cause own (Some marked) = if is_same own marked then Some cause.OwnMark else None

-- how many `#if` are open below the row
abbrev pub depth_below : Row → ℕ
depth_below row = (after row.context row.mark).depth

-- an `#if` or an `#atomic` is open below the row
abbrev pub is_unended : Row → Bool
is_unended row = is_enclosed (after row.context row.mark)

-- the row begins a part of a branch in which this many `#if` are open
abbrev pub begins_part : ℕ → Row → Bool
begins_part depth row = (is_if row.mark || is_else row.mark) && (depth_below row == depth)

abbrev pub else_after : ℕ → Bool → Row → Bool
else_after depth inside row = if begins_part depth row then is_else row.mark else inside

-- The innermost of that many branches is in its `#else` below these rows: the last part that they begin is one. Above them it is, if
-- `inside`.
abbrev pub in_else : ℕ → Bool → List Row → Bool
in_else depth inside [] = inside
in_else depth inside (row ∷ rows) = in_else depth (else_after depth inside row) rows

-- why an access to the buffer can't begin above these rows, where that many `#if` are open
abbrev pub access_above : List ℕ → ℕ → List Row → Option Cause
access_above name depth rows =
    if is_closed name depth rows then (if count_by is_line (accessed name depth rows) == 0 then Some cause.AccessesNothing else None)
    else Some cause.NotDone

-- why an access to the buffer can't end below these rows
abbrev pub done_below : List ℕ → List Row → Option Cause
done_below name rows = if is_open name false rows then None else Some cause.DoneNothing

-- why the rows above and below do not allow a row with that context and mark
abbrev pub cause_by : List Row → Context → List Row → Mark → Option Cause
cause_by above at below (mark.Client name) = if has_client above name then Some cause.NameTaken else None
cause_by above at below (mark.Named name) = if is_some (marked_in name above) then Some cause.MarkTaken else None
cause_by above at below (mark.After name) = order_cause at.section (option_or (marked_in name above) (marked_in name below))
cause_by above at below mark.Else = if in_else at.depth false above then Some cause.ElseTwice else None
cause_by above at below (mark.Access v name) = if is_done v then done_below name above else access_above name at.depth below
cause_by above at below _ = None

-- Why the rows above and below do not allow a row that its context allows: the row begins the lines of a client whose name a client
-- above has; it marks a line by a name that a mark above has; the line below it comes behind no marked line, or behind one of its own
-- client; it is the second `#else` of an `#if`; or it begins an access that has no end, or ends one that has not begun.
abbrev pub cause_among : List Row → Row → List Row → Option Cause
cause_among above row below = cause_by above row.context below row.mark

-- the other rows allow the row of that index
abbrev pub Fits : List Row → ℕ → Type 0
Fits rows index = (row : Row) → IsRow rows index row → cause_among (take index rows) row (drop (index + 1) rows) ≡ None

-- no two clients or marks have the same name, each `#after` names another client's mark, no `#if` has two `#else`, and each access begins
-- and ends
abbrev pub AllFit : List Row → Type 0
AllFit rows = (index : ℕ) → Fits rows index

-- the other rows do not allow the row, and it is the first such row
pub record IsMisfit (rows : List Row) (m : Mistake) : Type 0 where
  pub index : ℕ
  pub row : Row
  pub at : IsRow rows index row
  pub line : m.line ≡ row.number
  pub why : cause_among (take index rows) row (drop (index + 1) rows) ≡ Some m.cause
  pub first : (above : ℕ) → above < index → Fits rows above

-- the clients have together no more lines than the limit
abbrev pub AreFew : List Row → Type 0
AreFew rows = count_by is_line rows ≤ PLAN_LINES

-- a client's line has PLAN_LINES lines of clients above it
pub record IsPastLimit (rows : List Row) (m : Mistake) : Type 0 where
  pub index : ℕ
  pub row : Row
  pub at : IsRow rows index row
  pub line : m.line ≡ row.number
  pub counted : is_line row ≡ true
  pub full : count_by is_line (take index rows) ≡ PLAN_LINES
  pub why : m.cause ≡ cause.Lines PLAN_LINES

abbrev pub begins_client : Mark → Bool
begins_client (mark.Client name) = true
begins_client _ = false

abbrev pub is_client_row : Row → Bool
is_client_row row = begins_client row.mark

abbrev pub has_some_client : List Row → Bool
has_some_client rows = list_any is_client_row rows

-- why nothing may end below the mark: it is about the line that follows
abbrev pub unfollowed : Mark → Option Cause
unfollowed mark.Await = Some cause.AwaitsNothing
unfollowed mark.Once = Some cause.ChecksNothing
unfollowed (mark.Named name) = Some cause.NotesNothing
unfollowed (mark.After name) = Some cause.NotesNothing
unfollowed (mark.Turn number) = Some cause.NotesNothing
unfollowed _ = None

abbrev pub IsLastRow : List Row → Row → Type 0
IsLastRow rows row = slice_get rows (length rows - 1) ≡ Some row

-- the last row is about no line that follows
abbrev pub EndsWhole : List Row → Type 0
EndsWhole rows = (row : Row) → IsLastRow rows row → unfollowed row.mark ≡ None

-- no `#if` and no `#atomic` is open below the last row
abbrev pub EndsClosed : List Row → Type 0
EndsClosed rows = (row : Row) → IsLastRow rows row → is_unended row ≡ false

-- nothing is missing at the end
pub record IsWhole (rows : List Row) : Type 0 where
  pub ended : EndsWhole rows
  pub closed : EndsClosed rows
  pub client : has_some_client rows ≡ true

-- the last row is a note on the line below, and no command follows
pub record IsUnfollowed (rows : List Row) (m : Mistake) : Type 0 where
  pub row : Row
  pub last : IsLastRow rows row
  pub line : m.line ≡ row.number
  pub why : unfollowed row.mark ≡ Some m.cause

-- an `#if` or an `#atomic` is open below the last row
pub record IsOpen (rows : List Row) (m : Mistake) : Type 0 where
  pub row : Row
  pub last : IsLastRow rows row
  pub line : m.line ≡ row.number
  pub inside : is_unended row ≡ true
  pub why : m.cause ≡ cause.NotEnded

-- no row begins the lines of a client; reported of the last line
pub record IsClientless (rows : List Row) (last : ℕ) (m : Mistake) : Type 0 where
  pub none : has_some_client rows ≡ false
  pub line : m.line ≡ last
  pub why : m.cause ≡ cause.NoClient

abbrev pub IsMissing : List Row → ℕ → Mistake → Type 0
IsMissing rows last m = IsUnfollowed rows m ⊎ (EndsWhole rows × (IsOpen rows m ⊎ (EndsClosed rows × IsClientless rows last m)))

-- rows that make a plan
pub record IsPlan (rows : List Row) : Type 0 where
  pub placed : All IsPlaced rows
  pub fit : AllFit rows
  pub few : AreFew rows
  pub whole : IsWhole rows

-- why rows that are placed make no plan: a row that the others do not allow; else too many lines; else what is missing at the end
abbrev pub IsLaterMistake : List Row → ℕ → Mistake → Type 0
IsLaterMistake rows last m =
    IsMisfit rows m ⊎ (AllFit rows × (IsPastLimit rows m ⊎ (AreFew rows × IsMissing rows last m)))

-- Why the rows make no plan, and the first line of that kind: a row that its context does not allow; else a later mistake. The last
-- line has that number.
abbrev pub IsMistake : List Row → ℕ → Mistake → Type 0
IsMistake rows last m = IsMisplaced rows m ⊎ (All IsPlaced rows × IsLaterMistake rows last m)
