-- The main theorem's parts: what a device reports of all that was put into its files and buffers, and of its timelines.
use Rattle.std.specs.Prelude.{◌≡◌, ◌↔◌, ℕ, ◌+◌, ◌-◌, ◌≤◌, true, List, [], map, Some, option_map, All, Contains, Result}
use Rattle.std.specs.List.{range_with_len}
use Rattle.point_core.specs.declared.entry.Entry.{Entry}
use Rattle.point_core.specs.declared.entry.Usage.{Usage}
use Rattle.point_core.specs.Usage.{usage_number}
use Rattle.point_core.specs.Agreement.{AgreesAbove, IsReached, as_entry}
use Rattle.point_core.specs.declared.status.Status.TheVariants.{Signalled}
use Rattle.device_core.specs.declared.fence.Fence.{Fence}
use Rattle.device_core.specs.declared.fence.Signal.{Signal}
use Rattle.device_core.specs.declared.fence.Timeline.{Timeline}
use Rattle.device_core.specs.declared.errno.Errno.{Errno}
use Rattle.device_core.specs.declared.request.Request.{Request}
use Rattle.device_core.specs.declared.request.Reply.{Reply}
use Rattle.device_core.specs.theorem.Fences.{are_signalled, entries_in, pending_of, point_in, status_before, status_of, HasRisingTimelines}
use Rattle.device_core.specs.theorem.State.{FileState, DeviceState, file_at, timeline_at, buffer_at}
use Rattle.device_core.specs.theorem.Buffers.{BufferState, at_usage, entries_of, exported, none_waits}
use Rattle.device_core.specs.theorem.Listing.{pending_points}
use Rattle.device_core.specs.theorem.Request.{is_waiting}
use Rattle.device_core.specs.theorem.Times.{numbers_given, times_woken, times_begun, times_dropped, one_if}
use Rattle.device_core.specs.theorem.History.{sum_of}
use Rattle.device_core.specs.theorem.Put.{put_into, reach_after}
use Rattle.device_core.specs.theorem.Signals.{first_status, opened_as, point_status, reached_from}

-- both have the same entries, in whatever order and however often
pub record HasSameEntries (es fs : List Entry) : Type 0 where
  pub there : (e : Entry) → Contains es e → Contains fs e
  pub back : (e : Entry) → Contains fs e → Contains es e

-- above the timelines' values a file agrees with what was put into it
pub record ReportsWhatWasPut (d : DeviceState) (history : List Request) : Type 0 where
  -- each file agrees with the union of the points put into it
  pub agrees : (n : ℕ) (f : FileState) → file_at d n ≡ Some f →
      AgreesAbove (reach_after history) (entries_in f.fences) (put_into history n)
  -- files with the same put points agree
  pub same_put : (a b : ℕ) (f g : FileState) → file_at d a ≡ Some f → file_at d b ≡ Some g →
      HasSameEntries (put_into history a) (put_into history b) →
      AgreesAbove (reach_after history) (entries_in f.fences) (entries_in g.fences)
  -- a file is signalled exactly when each point put in is reached, or its timeline is closed
  pub signalled : (n : ℕ) (f : FileState) → file_at d n ≡ Some f →
      ((are_signalled f.fences ≡ true) ↔ IsReached (put_into history n) 0 (reach_after history))
  -- its pending fences are, by rising timeline, the latest pending point of each timeline with a point that was put in
  pub pending : (n : ℕ) (f : FileState) → file_at d n ≡ Some f →
      map point_in (pending_of f.fences) ≡ pending_points (reach_after history) (put_into history n) 0
  -- each of its fences is at a point that was put in
  pub listed : (n : ℕ) (f : FileState) → file_at d n ≡ Some f →
      All (λ (g : Fence). Contains (put_into history n) (as_entry (point_in g))) f.fences
  -- its fences are of rising timelines
  pub rising : (n : ℕ) (f : FileState) → file_at d n ≡ Some f → HasRisingTimelines f.fences

-- above the timelines' values a buffer agrees with what was put into it, at each usage
pub record ReportsBuffers (d : DeviceState) (history : List Request) : Type 0 where
  -- each buffer agrees with the union of all that was put into it
  pub agrees : (n : ℕ) (b : BufferState) → buffer_at d n ≡ Some b →
      AgreesAbove (reach_after history) (entries_of b.fences) (put_into history n)
  -- buffers with the same put entries agree
  pub same_put : (m n : ℕ) (a b : BufferState) → buffer_at d m ≡ Some a → buffer_at d n ≡ Some b →
      HasSameEntries (put_into history m) (put_into history n) →
      AgreesAbove (reach_after history) (entries_of a.fences) (entries_of b.fences)
  -- a file agrees with a buffer at a usage if what was put into the file is what was put into the buffer at that usage
  pub same_as_file : (m n : ℕ) (f : FileState) (b : BufferState) (usage : Usage) →
      file_at d m ≡ Some f → buffer_at d n ≡ Some b →
      HasSameEntries (put_into history m) (at_usage usage (put_into history n)) →
      AgreesAbove (reach_after history) (entries_in f.fences) (at_usage usage (entries_of b.fences))
  -- a buffer is signalled at a usage exactly when each point put in at it or a stronger one is reached, or its timeline
  -- is closed
  pub signalled : (n : ℕ) (b : BufferState) (usage : Usage) → buffer_at d n ≡ Some b →
      ((none_waits (timeline_at d) usage b.fences ≡ true)
      ↔ IsReached (put_into history n) (usage_number usage) (reach_after history))
  -- an export at a usage lists, by rising timeline, the latest pending point of each timeline with a point that was put
  -- in at it or a stronger one
  pub lists : (n : ℕ) (b : BufferState) (usage : Usage) → buffer_at d n ≡ Some b →
      map point_in (exported (timeline_at d) usage b.fences)
      ≡ pending_points (reach_after history) (put_into history n) (usage_number usage)
  -- an export at a usage agrees with what was put in at it or a stronger one
  pub exports : (n : ℕ) (b : BufferState) (usage : Usage) → buffer_at d n ≡ Some b →
      AgreesAbove (reach_after history) (entries_in (exported (timeline_at d) usage b.fences))
      (at_usage usage (put_into history n))

-- each fence of a file has its timeline's name, and signals when its point is reached, or is cancelled if it never is
pub record ReportsFences (d : DeviceState) (history : List Request) : Type 0 where
  -- each fence has the status of its point
  pub fences : (n : ℕ) (f : FileState) → file_at d n ≡ Some f →
      All (λ (g : Fence). status_before g.signal Signalled ≡ point_status (timeline_at d) history (point_in g)) f.fences
  -- a file has the first status of its points, by rising timeline, that is not signalled
  pub files : (n : ℕ) (f : FileState) → file_at d n ≡ Some f →
      status_of f.fences ≡ first_status (map (λ (g : Fence). point_status (timeline_at d) history (point_in g)) f.fences)
  -- a fence has the time of the first request after which its file was there and its point reached
  pub times : (n : ℕ) (f : FileState) → file_at d n ≡ Some f →
      All (λ (g : Fence). option_map (λ (s : Signal). s.at) g.signal ≡ reached_from n (point_in g) [] history)
      f.fences
  -- a fence has the name with which its timeline was opened
  pub names : (n : ℕ) (f : FileState) → file_at d n ≡ Some f →
      All (λ (g : Fence). opened_as g.timeline [] history ≡ Some g.name) f.fences

-- an open timeline is at the sum of its increments
pub record ReportsSums (d : DeviceState) (history : List Request) : Type 0 where
  pub values : (n : ℕ) (t : Timeline) → timeline_at d n ≡ Some t → t.value ≡ sum_of n history

-- the objects that are made have the numbers from 1 on, one after another, so none is given twice
pub record ReportsNumbers (d : DeviceState) (given : List (Result Reply Errno)) : Type 0 where
  pub rising : numbers_given given ≡ range_with_len 1 (d.next - 1)

-- each file that waits when it is made is later woken, or is closed while it waits, or still waits, and only one of
-- these
pub record ReportsEachWaking (d : DeviceState) (history : List Request) (given : List (Result Reply Errno))
    : Type 0 where
  pub each : (n : ℕ) →
      times_begun n history ≡ times_woken n given + times_dropped n history + one_if (is_waiting (file_at d n))
  -- it is made once
  pub begun : (n : ℕ) → times_begun n history ≤ 1
  -- so it is woken at most once
  pub woken : (n : ℕ) → times_woken n given ≤ 1
