-- The answer of each command in a world: the first refusal whose cause holds, else what the accepted command reports.
use Rattle.std.specs.Prelude.{ℕ, ◌+◌, ◌^◌, Bool, true, false, not, ◌&&◌, ◌||◌, nat_le, if◌then◌else◌, List, [], ◌∷◌, ◌++◌, length, map, Option, None, Some, unwrap_or, codes, ⊤}
use Rattle.point_core.specs.declared.context.TheConstants.{CONTEXTS}
use Rattle.point_core.specs.declared.entry.Point.{Point}
use Rattle.point_core.specs.declared.refusal.Refusal.{Refusal}
use Rattle.point_core.specs.declared.refusal.Refusal.TheVariants.{NoEntry, Exists, Overflow, Flags, Limit, TimedOut, Cancelled as AlreadyClosed, Signalled as AlreadySignalled}
use Rattle.point_core.specs.declared.refusal.LimitKind.TheVariants.{Timelines, Buffers, Files, Watches}
use Rattle.point_core.specs.declared.status.Status.{Status}
use Rattle.point_core.specs.declared.status.Status.TheVariants.{Signalled}
use Rattle.point_core.specs.Usage.{usage_number}
use Rattle.point_core.specs.Clocks.{status_of, status_at, some_cancelled}
use Rattle.point_core.specs.Agreement.{listing, all_reached}
use Rattle.command_core.specs.declared.command.Command.{Command}
use Rattle.command_core.specs.declared.command.Command.TheVariants as command
use Rattle.command_core.specs.declared.answer.Answer.{Answer}
use Rattle.command_core.specs.declared.answer.Answer.TheVariants as answer
use Rattle.command_core.specs.declared.answer.Info.{Info}
use Rattle.command_core.specs.declared.answer.FenceRow.{FenceRow}
use Rattle.command_core.specs.declared.answer.Maker.TheVariants.{SwSync, Stub}
use Rattle.command_core.specs.declared.answer.ShowRow.{ShowRow}
use Rattle.command_core.specs.declared.answer.FileRow.{FileRow}
use Rattle.command_core.specs.declared.answer.BufferRows.{BufferRows}
use Rattle.command_core.specs.Tables.{Tables}
use Rattle.point_core.specs.declared.entry.Entry.{Entry}
use Rattle.point_core.specs.declared.listing.TopRow.{TopRow}
use Rattle.resv_core.specs.Resv.{rows_of}
use Rattle.timeline_core.specs.Timeline.{Timeline, has_timeline, name_at, clocks_of, reach_of, value_of, is_closed, rows_of as timeline_rows}
use Rattle.desk_core.specs.theorem.World.{MadeFile, MadeBuffer, World, has_file, file_named, put_set, has_made_buffer, buffer_put_set, has_made_watch, fired_watches, shut_watches, cookies_of}
use Rattle.point_core.specs.declared.limits.TheConstants.{BUFFERS}
use Rattle.dmabuf_core.specs.Flags.{is_sync_flags}
use Rattle.syncfile_core.specs.declared.files.TheConstants.{FILES}
use Rattle.fence_core.specs.declared.watches.TheConstants.{WATCHES, WATCHES_EVER}

-- the first refusal whose cause holds
abbrev pub first_of : List (Bool × Refusal) → Option Refusal
first_of [] = None
first_of (r ∷ rs) = if r.0 then Some r.1 else first_of rs

abbrev pub cause : Bool → Refusal → Bool × Refusal
cause holds refusal = (holds, refusal)

-- a file of that name can't be made
abbrev pub making_file : World → List ℕ → List (Bool × Refusal)
making_file w name = cause (has_file w.files name) Exists ∷ cause (nat_le FILES (length w.files)) (Limit Files) ∷ []

-- there is a file of that name, and all that was put into it is reached
abbrev pub is_signalled : World → List ℕ → Bool
is_signalled w name = has_file w.files name && all_reached (reach_of w.timelines) 0 (put_set w.files name)

-- no more watches can be pending, or registered
abbrev pub is_full : World → Bool
is_full w = nat_le WATCHES (length w.watches) || nat_le WATCHES_EVER w.watches_made

-- the causes, in the order in which they are reported
abbrev pub causes : World → Command → List (Bool × Refusal)
causes w (command.Timeline t) =
    cause (has_timeline w.timelines t) Exists ∷ cause (nat_le CONTEXTS (length w.timelines)) (Limit Timelines) ∷ []
causes w (command.Inc t n) =
    cause (not (has_timeline w.timelines t)) NoEntry ∷ cause (is_closed w.timelines t) AlreadyClosed
    ∷ cause (nat_le (2 ^ 64) (value_of w.timelines t + n)) Overflow ∷ []
causes w (command.Value t) = cause (not (has_timeline w.timelines t)) NoEntry ∷ []
causes w (command.Shut t) =
    cause (not (has_timeline w.timelines t)) NoEntry ∷ cause (is_closed w.timelines t) AlreadyClosed ∷ []
causes w (command.Fence f t p) =
    cause (not (has_timeline w.timelines t)) NoEntry ∷ making_file w f ++ cause (is_closed w.timelines t) AlreadyClosed ∷ []
causes w (command.Merge f a b) = cause (not (has_file w.files a && has_file w.files b)) NoEntry ∷ making_file w f
causes w (command.Close f) = cause (not (has_file w.files f)) NoEntry ∷ []
causes w (command.Wait f) = cause (not (has_file w.files f)) NoEntry ∷ cause (not (is_signalled w f)) TimedOut ∷ []
causes w (command.Info f) = cause (not (has_file w.files f)) NoEntry ∷ []
causes w (command.Buffer b) =
    cause (has_made_buffer w.buffers b) Exists ∷ cause (nat_le BUFFERS (length w.buffers)) (Limit Buffers) ∷ []
causes w (command.Add b t p u) = cause (not (has_made_buffer w.buffers b && has_timeline w.timelines t)) NoEntry ∷ []
causes w (command.Import b f flags) =
    cause (not (has_made_buffer w.buffers b && has_file w.files f)) NoEntry ∷ cause (not (is_sync_flags flags)) Flags ∷ []
causes w (command.Export f b flags) =
    cause (not (has_made_buffer w.buffers b)) NoEntry ∷ cause (not (is_sync_flags flags)) Flags ∷ making_file w f
causes w (command.Test b u) = cause (not (has_made_buffer w.buffers b)) NoEntry ∷ []
causes w (command.Trim b) = cause (not (has_made_buffer w.buffers b)) NoEntry ∷ []
causes w (command.Watch f cookie) =
    cause (not (has_file w.files f)) NoEntry ∷ cause (has_made_watch w.watches cookie) Exists
    ∷ cause (is_full w) (Limit Watches) ∷ cause (is_signalled w f) AlreadySignalled ∷ []
causes w (command.Unwatch cookie) = []
causes w (command.Show b) = cause (not (has_made_buffer w.buffers b)) NoEntry ∷ []
causes w command.Report = []

-- 1 for yes, 0 for no
abbrev pub number_if : Bool → ℕ
number_if b = if b then 1 else 0

-- a file made of one point lists it, any other what was pending when it was made
abbrev pub listed_points : MadeFile → List Point
listed_points f = if f.is_one_point then map (λ e. e.point) f.put else listing f.put 0 f.made_at

-- a file is active until all that was put into it is reached, and then cancelled if a point that it lists is
abbrev pub file_status : World → MadeFile → Status
file_status w f =
    status_of (all_reached (reach_of w.timelines) 0 f.put) (some_cancelled (clocks_of w.timelines) (listed_points f))

-- the name of a context that a timeline was made of
abbrev pub name_of : List Timeline → ℕ → List ℕ
name_of ts ctx = unwrap_or (name_at ts ctx) []

abbrev pub fence_row : List Timeline → Point → FenceRow
fence_row ts p = record {
  timeline = name_of ts p.ctx;
  driver = SwSync;
  point = p.value;
  status = status_at (clocks_of ts) p;
}

abbrev pub stub_row : FenceRow
stub_row = record { timeline = codes "stub"; driver = Stub; point = 0; status = Signalled }

-- a file without points is shown as the stub
abbrev pub or_stub : List FenceRow → List FenceRow
or_stub [] = stub_row ∷ []
or_stub (r ∷ rs) = r ∷ rs

abbrev pub info_of : World → List ℕ → MadeFile → Info
info_of w name f =
    record { name = name; status = file_status w f; fences = or_stub (map (fence_row w.timelines) (listed_points f)) }

-- the report on the file with that name; without such a file `Done`, which no accepted command reaches
abbrev pub info_reported : World → List ℕ → Option MadeFile → Answer
info_reported w name None = answer.Done
info_reported w name (Some f) = answer.Info (info_of w name f)

-- the row of a pending top, with the name of its timeline
abbrev pub show_row : List Timeline → TopRow → ShowRow
show_row ts r = record { usage = r.usage; timeline = name_of ts r.ctx; point = r.point }

-- from the strongest usage and by rising context, the pending tops of the entries
abbrev pub show_rows : List Timeline → List Entry → List ShowRow
show_rows ts es = map (show_row ts) (rows_of es (reach_of ts))

-- a file without points is shown as one fence, the stub
abbrev pub fence_count : List Point → ℕ
fence_count [] = 1
fence_count (p ∷ ps) = length (p ∷ ps)

abbrev pub file_row : World → MadeFile → FileRow
file_row w f = record { name = f.name; status = file_status w f; count = fence_count (listed_points f) }

-- a buffer, and the rows of all that was put into it
abbrev pub buffer_rows : World → MadeBuffer → BufferRows
buffer_rows w b = record { name = b.name; rows = show_rows w.timelines b.put }

-- the timelines by rising context, the files and the buffers in order of making
abbrev pub report_of : World → Tables
report_of w = record {
  timelines = timeline_rows w.timelines;
  files = map (file_row w) w.files;
  buffers = map (buffer_rows w) w.buffers;
}

-- The report of an accepted command. None of its causes holds then, so each object that it names exists.
abbrev pub reported : World → Command → Answer
reported w (command.Timeline t) = answer.Value (length w.timelines + 1)
reported w (command.Inc t n) = answer.Raised (value_of w.timelines t + n) (cookies_of (fired_watches w t n))
reported w (command.Value t) = answer.Value (value_of w.timelines t)
reported w (command.Shut t) = answer.Raised (value_of w.timelines t) (cookies_of (shut_watches w t))
reported w (command.Fence f t p) = answer.Done
reported w (command.Merge f a b) = answer.Done
reported w (command.Close f) = answer.Done
reported w (command.Wait f) = answer.Done
reported w (command.Info f) = info_reported w f (file_named w.files f)
reported w (command.Buffer b) = answer.Done
reported w (command.Add b t p u) = answer.Done
reported w (command.Import b f flags) = answer.Done
reported w (command.Export f b flags) = answer.Done
reported w (command.Test b u) =
    answer.Value (number_if (all_reached (reach_of w.timelines) (usage_number u) (buffer_put_set w.buffers b)))
reported w (command.Trim b) = answer.Done
reported w (command.Watch f cookie) = answer.Done
reported w (command.Unwatch cookie) = answer.Value (number_if (has_made_watch w.watches cookie))
reported w (command.Show b) = answer.Show (show_rows w.timelines (buffer_put_set w.buffers b))
reported w command.Report = answer.Report (report_of w)

abbrev pub refused_or : Option Refusal → Answer → Answer
refused_or None a = a
refused_or (Some r) a = answer.Refused r

-- Whether the command allocates, and so may find no memory: a command that makes something or reports a list does, and no other.
-- An increment or a closing allocates only if it fires a watch, which `fires` says.
abbrev pub takes_memory : (Command → Bool) → Command → Bool
takes_memory fires (command.Timeline t) = true
takes_memory fires (command.Inc t n) = fires (command.Inc t n)
takes_memory fires (command.Value t) = false
takes_memory fires (command.Shut t) = fires (command.Shut t)
takes_memory fires (command.Fence f t p) = true
takes_memory fires (command.Merge f a b) = true
takes_memory fires (command.Close f) = false
takes_memory fires (command.Wait f) = false
takes_memory fires (command.Info f) = true
takes_memory fires (command.Buffer b) = true
takes_memory fires (command.Add b t p u) = true
takes_memory fires (command.Import b f flags) = true
takes_memory fires (command.Export f b flags) = true
takes_memory fires (command.Test b u) = false
takes_memory fires (command.Trim b) = false
takes_memory fires (command.Watch f cookie) = true
takes_memory fires (command.Unwatch cookie) = false
takes_memory fires (command.Show b) = true
takes_memory fires command.Report = true

-- the one answer of the command
abbrev pub answer_to : World → Command → Answer
answer_to w c = refused_or (first_of (causes w c)) (reported w c)

abbrev pub is_refused : Answer → Bool
is_refused (answer.Refused r) = true
is_refused _ = false

-- a fact that holds if the answer is a refusal
abbrev pub OnRefused : Answer → Type 0 → Type 0
OnRefused (answer.Refused r) fact = fact
OnRefused _ fact = ⊤
