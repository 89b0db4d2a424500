-- The contracts of the functions of single commands, for the proof of `step`.
use Rattle.std.specs.Prelude.{◌≡◌, ℕ, ◌≤◌, ◌<◌, Bool, false, nat_lt, if◌then◌else◌, List, [], ◌∷◌, map, length, All, Option, None, Some, option_map, unwrap_or, Result, Ok, Err}
use Rattle.point_core.specs.declared.entry.Point.{Point}
use Rattle.point_core.specs.declared.context.TheConstants.{CONTEXTS}
use Rattle.point_core.specs.declared.refusal.Refusal.{Refusal}
use Rattle.point_core.specs.declared.refusal.Refusal.TheVariants.{NoEntry, Exists, Flags, Limit, TimedOut, Cancelled}
use Rattle.point_core.specs.declared.refusal.LimitKind.TheVariants.{Timelines}
use Rattle.point_core.specs.Agreement.{as_entries, all_reached, top}
use Rattle.point_core.specs.Latest.{raised_to}
use Rattle.point_core.specs.Reach.{value_at, IsAtLeast}
use Rattle.point_core.specs.declared.entry.Entry.{Entry}
use Rattle.point_core.specs.declared.clocks.Clock.{Clock}
use Rattle.point_core.specs.Clocks.{common_status}
use Rattle.std.specs.List.{list_any}
use Rattle.std.specs.Option.{option_map_or}
use Rattle.timeline_core.specs.Timeline.{Timeline, has_timeline, clocks_of, reach_of, is_closed, cause_if_not_open, cause_to_refuse_inc, rows_of as timeline_rows}
use Rattle.syncfile_core.specs.SyncFile.{File, file_at as sync_file_at}
use Rattle.syncfile_core.specs.Files.{has_file as has_sync_file, cause_to_refuse}
use Rattle.syncfile_core.specs.Merge.{cause_to_refuse_merge}
use Rattle.dmabuf_core.specs.Flags.{is_sync_flags}
use Rattle.dmabuf_core.specs.Buffers.{Buffer, entries_of, names_of, has_buffer, cause_to_refuse as cause_to_refuse_buffer, cause_without, cause_by_flags}
use Rattle.fence_core.specs.Watches.{fires, cause_to_refuse_watch}
use Rattle.command_core.specs.declared.answer.Info.{Info}
use Rattle.command_core.specs.declared.answer.FileRow.{FileRow}
use Rattle.command_core.specs.declared.answer.BufferRows.{BufferRows}
use Rattle.command_core.specs.Tables.{Tables}
use Rattle.point_core.specs.declared.listing.TopRow.{TopRow}
use Rattle.command_core.specs.declared.answer.Answer.{Answer}
use Rattle.command_core.specs.declared.answer.Answer.TheVariants as answer
use Rattle.command_core.specs.declared.command.Command.{Command}
use Rattle.command_core.specs.declared.command.Command.TheVariants as command
use Rattle.desk_core.specs.theorem.World.{World, after, reach_by}
use Rattle.desk_core.specs.theorem.Answer.{reported, is_refused, fence_row, or_stub, show_rows, fence_count}
use Rattle.desk_core.specs.theorem.Desk.{DeskState, Holds}
use Rattle.desk_core.specs.Sound.{IsSound}

-- each point is of a timeline that was made
abbrev pub AreMade : ℕ → List Point → Type 0
AreMade made ps = All (λ (p : Point). p.ctx ≤ made) ps

-- each file lists points of timelines that were made
abbrev pub HaveTimelines : ℕ → List File → Type 0
HaveTimelines made fs = All (λ (f : File). AreMade made f.points) fs

-- no context after those that were made has a pending point
pub record HasNoneBehind (made : ℕ) (reach : List ℕ) (es : List Entry) : Type 0 where
  pub tops : (usage ctx : ℕ) → made < ctx → raised_to (value_at reach ctx) (top es usage ctx) ≡ value_at reach ctx

-- files and buffers of a desk have points of timelines that were made, the timelines have reached the files' floors, and the watches
-- know the timelines' values
pub record IsOfItsTimelines (d : DeskState) : Type 0 where
  pub files : HaveTimelines (length d.timelines) d.files
  pub floors : All (λ (f : File). IsAtLeast (reach_of d.timelines) f.floor) d.files
  pub buffers : (name : List ℕ) → HasNoneBehind (length d.timelines) (reach_of d.timelines) (entries_of d.buffers name)
  pub watches : d.watches.reach ≡ reach_of d.timelines

-- the report of a file that lists the points
abbrev pub info_at : List Timeline → List ℕ → List Point → Info
info_at ts name ps = record {
  name = name;
  status = common_status (clocks_of ts) ps;
  fences = or_stub (map (fence_row ts) ps);
}

-- the desk holds what a sound world has
pub record Keeps (desk : DeskState) (world : World) : Type 0 where
  pub holds : Holds desk world
  pub sound : IsSound world

-- the points of the file of that name
abbrev pub points_at : List File → List ℕ → List Point
points_at fs name = unwrap_or (option_map (λ (f : File). f.points) (sync_file_at fs name)) []

-- whether a watch that the desk keeps is due at that reach
abbrev pub keeps_due : DeskState → List ℕ → Bool
keeps_due d reach = list_any (fires reach) d.watches.pending

-- whether the command fires a watch that the desk keeps
abbrev pub fires_kept : DeskState → Command → Bool
fires_kept d c = option_map_or (keeps_due d) (reach_by d.timelines c) false

-- each row is of a timeline that was made
abbrev pub AreRowsMade : ℕ → List TopRow → Type 0
AreRowsMade made rows = All (λ (r : TopRow). r.ctx ≤ made) rows

-- what is reported of a file, by what the desk keeps
abbrev pub file_row_at : List Clock → File → FileRow
file_row_at clocks f = record {
  name = f.name;
  status = common_status clocks f.points;
  count = fence_count f.points;
}

-- what is reported of the buffer of that name
abbrev pub buffer_rows_at : List Timeline → List Buffer → List ℕ → BufferRows
buffer_rows_at ts bs name = record { name = name; rows = show_rows ts (entries_of bs name) }

-- everything, by what the desk keeps
abbrev pub report_at : List Timeline → List File → List Buffer → Tables
report_at ts fs bs = record {
  timelines = timeline_rows ts;
  files = map (file_row_at (clocks_of ts)) fs;
  buffers = map (buffer_rows_at ts bs) (names_of bs);
}

-- the first of two causes
abbrev pub first_cause : Option Refusal → Option Refusal → Option Refusal
first_cause None second = second
first_cause (Some first) second = Some first

-- a closed timeline gets no new fence
abbrev pub cause_closed : DeskState → List ℕ → Option Refusal
cause_closed d t = if is_closed d.timelines t then Some Cancelled else None

-- Why the desk refuses a command, by what it keeps. It is the first of the `causes` that hold in the world of its history:
-- so says the law `a_desk_refuses_for_the_first_cause`.
abbrev pub cause_of : DeskState → Command → Option Refusal
cause_of d (command.Timeline t) =
    if has_timeline d.timelines t then Some Exists else if nat_lt (length d.timelines) CONTEXTS then None else Some (Limit Timelines)
cause_of d (command.Inc t n) = cause_to_refuse_inc d.timelines t n
cause_of d (command.Value t) = if has_timeline d.timelines t then None else Some NoEntry
cause_of d (command.Shut t) = cause_if_not_open d.timelines t
cause_of d (command.Fence f t p) =
    if has_timeline d.timelines t then first_cause (cause_to_refuse d.files f) (cause_closed d t) else Some NoEntry
cause_of d (command.Merge f a b) = cause_to_refuse_merge d.files f (a ∷ b ∷ [])
cause_of d (command.Close f) = if has_sync_file d.files f then None else Some NoEntry
cause_of d (command.Wait f) =
    if has_sync_file d.files f
    then (if all_reached (reach_of d.timelines) 0 (as_entries (points_at d.files f)) then None else Some TimedOut)
    else Some NoEntry
cause_of d (command.Info f) = if has_sync_file d.files f then None else Some NoEntry
cause_of d (command.Buffer b) = cause_to_refuse_buffer d.buffers b
cause_of d (command.Add b t p u) = if has_timeline d.timelines t then cause_without d.buffers b else Some NoEntry
cause_of d (command.Import b f flags) = if has_sync_file d.files f then cause_by_flags d.buffers b flags else Some NoEntry
cause_of d (command.Export f b flags) =
    if has_buffer d.buffers b then (if is_sync_flags flags then cause_to_refuse d.files f else Some Flags) else Some NoEntry
cause_of d (command.Test b u) = cause_without d.buffers b
cause_of d (command.Trim b) = cause_without d.buffers b
cause_of d (command.Watch f cookie) =
    if has_sync_file d.files f
    then cause_to_refuse_watch d.watches cookie (points_at d.files f) (reach_of d.timelines)
    else Some NoEntry
cause_of d (command.Unwatch cookie) = None
cause_of d (command.Show b) = cause_without d.buffers b
cause_of d command.Report = None

-- the command was done in each world that the desk keeps
pub record IsDone (old : DeskState) (c : Command) (given : Answer) (new : DeskState) : Type 0 where
  pub accepted : is_refused given ≡ false
  pub reported : (world : World) → Keeps old world → given ≡ reported world c
  pub held : (world : World) → Keeps old world → Holds new (after world c)

-- the answer: the report, or the refusal
abbrev pub answer_of : Result Answer Refusal → Answer
answer_of (Ok given) = given
answer_of (Err refusal) = answer.Refused refusal
