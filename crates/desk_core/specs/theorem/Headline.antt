-- What a desk reports of all that was put into its files and buffers, and of its timelines.
use Rattle.std.specs.Prelude.{◌≡◌, ◌≢◌, ℕ, ◌+◌, ◌≤◌, ◌↔◌, nat_eq, true, List, [], ◌∷◌, ◌++◌, length, count_by, Some, Contains}
use Rattle.point_core.specs.declared.entry.Entry.{Entry}
use Rattle.point_core.specs.declared.entry.Usage.{Usage}
use Rattle.point_core.specs.declared.refusal.Refusal.TheVariants.{TimedOut}
use Rattle.point_core.specs.Usage.{usage_number}
use Rattle.point_core.specs.declared.clocks.Clock.{Clock}
use Rattle.point_core.specs.declared.status.Status.TheVariants.{Active, Cancelled}
use Rattle.point_core.specs.Clocks.{some_cancelled}
use Rattle.point_core.specs.Agreement.{AgreesAbove, as_entries, IsReached}
use Rattle.command_core.specs.declared.command.Command.{Command}
use Rattle.command_core.specs.declared.command.Command.TheVariants as command
use Rattle.command_core.specs.declared.answer.Info.{Info}
use Rattle.command_core.specs.declared.answer.Answer.{Answer}
use Rattle.command_core.specs.declared.answer.Answer.TheVariants as answer
use Rattle.timeline_core.specs.Timeline.{clocks_of, reach_of}
use Rattle.timeline_core.specs.Sums.{incremented, AreSums}
use Rattle.syncfile_core.specs.SyncFile.{File, file_at as sync_file_at}
use Rattle.resv_core.specs.declared.resv.TheConstants.{PLACES}
use Rattle.dmabuf_core.specs.Buffers.{has_buffer, entries_of}
use Rattle.desk_core.specs.theorem.World.{MadeFile, MadeWatch, file_named, put_set, buffer_put_set, fired_watches, shut_watches, cookies_of}
use Rattle.desk_core.specs.theorem.Answer.{listed_points}
use Rattle.desk_core.specs.theorem.History.{world_of, increments_in}
use Rattle.desk_core.specs.theorem.Fired.{fired_along, pending_after}
use Rattle.desk_core.specs.theorem.Desk.{DeskState, Answers}
use Rattle.desk_core.specs.theorem.Times.{times_registered, times_removed, times_fired, times_pending}

-- both have the same entries, in whatever order and however often
pub record HasSameEntries (es fs : List Entry) : Type 0 where
  pub there : (e : Entry) → Contains es e → Contains fs e
  pub back : (e : Entry) → Contains fs e → Contains es e

-- what the timelines have reached after a history: their values, or the greatest value of a closed one
abbrev pub values_after : List Command → List ℕ
values_after history = reach_of (world_of history).timelines

-- the timelines' values after a history, and which are closed
abbrev pub clocks_after : List Command → List Clock
clocks_after history = clocks_of (world_of history).timelines

-- all that a history put into the file of that name
abbrev pub put_into_file : List Command → List ℕ → List Entry
put_into_file history name = put_set (world_of history).files name

-- every point that was put into the file of that name is reached; of a name without a file none was put
abbrev pub IsFileReached : List Command → List ℕ → Type 0
IsFileReached history name = IsReached (put_into_file history name) 0 (values_after history)

-- above the timelines' values a file says what was put into it, and the desk reports that it is signalled exactly when all
-- of that is
pub record ReportsWhatWasPut (desk : DeskState) (history : List Command) : Type 0 where
  -- each file agrees with the union of the points put into it
  pub agrees : (name : List ℕ) (f : File) → sync_file_at desk.files name ≡ Some f
      → AgreesAbove (values_after history) (as_entries f.points) (put_into_file history name)
  -- files with the same put points agree
  pub same_put : (a b : List ℕ) (f g : File) → sync_file_at desk.files a ≡ Some f → sync_file_at desk.files b ≡ Some g
      → HasSameEntries (put_into_file history a) (put_into_file history b)
      → AgreesAbove (values_after history) (as_entries f.points) (as_entries g.points)
  -- all that a file lists is reached exactly when every point put into it is
  pub reached : (name : List ℕ) (f : File) → sync_file_at desk.files name ≡ Some f
      → (IsReached (as_entries f.points) 0 (values_after history) ↔ IsFileReached history name)
  -- `info` reports that a file is signalled, its status not being active, exactly when every point put into it is reached
  pub signalled : (name : List ℕ) (reported : Info) → Answers desk (command.Info name) (answer.Info reported)
      → ((reported.status ≢ Active) ↔ IsFileReached history name)
  -- and that it is cancelled exactly when besides a point that it lists is
  pub cancelled : (name : List ℕ) (f : File) (reported : Info) → sync_file_at desk.files name ≡ Some f
      → Answers desk (command.Info name) (answer.Info reported)
      → ((reported.status ≡ Cancelled) ↔ (IsFileReached history name × (some_cancelled (clocks_after history) f.points ≡ true)))
  -- a `wait` is done exactly when every point put into the file is reached, and else it has timed out
  pub waited : (name : List ℕ) (f : File) (given : Answer) → sync_file_at desk.files name ≡ Some f
      → Answers desk (command.Wait name) given → ((given ≡ answer.Done) ↔ IsFileReached history name)
  pub timed_out : (name : List ℕ) (f : File) (given : Answer) → sync_file_at desk.files name ≡ Some f
      → Answers desk (command.Wait name) given → ((given ≡ answer.Refused TimedOut) ↔ (¬ IsFileReached history name))
  -- each file lists what was pending when it was made, or its one point
  pub listed : (name : List ℕ) (f : File) (made : MadeFile) → sync_file_at desk.files name ≡ Some f
      → file_named (world_of history).files name ≡ Some made → f.points ≡ listed_points made

-- all that a history put into the buffer of that name
abbrev pub put_into_buffer : List Command → List ℕ → List Entry
put_into_buffer history name = buffer_put_set (world_of history).buffers name

-- every point that was put into the buffer of that name, at the usage or a stronger one, is reached; of a name without a
-- buffer none was put
abbrev pub IsBufferReached : List Command → List ℕ → Usage → Type 0
IsBufferReached history name usage = IsReached (put_into_buffer history name) (usage_number usage) (values_after history)

-- above the timelines' values a reservation says what was put into its buffer, and the desk reports that it is signalled at a
-- usage exactly when all of that is
pub record ReportsWhatIsInBuffers (desk : DeskState) (history : List Command) : Type 0 where
  -- each reservation agrees, at every usage, with the union of all that was put into it
  pub agrees : (name : List ℕ) → AgreesAbove (values_after history) (entries_of desk.buffers name) (put_into_buffer history name)
  -- reservations with the same put entries agree
  pub same_put : (a b : List ℕ) → HasSameEntries (put_into_buffer history a) (put_into_buffer history b)
      → AgreesAbove (values_after history) (entries_of desk.buffers a) (entries_of desk.buffers b)
  -- a file beside a reservation with the same put entries agrees with it, its points being of the strongest usage
  pub same_as_file : (name b : List ℕ) (f : File) → sync_file_at desk.files name ≡ Some f
      → HasSameEntries (put_into_file history name) (put_into_buffer history b)
      → AgreesAbove (values_after history) (as_entries f.points) (entries_of desk.buffers b)
  -- `test` answers 1 exactly when every point put in at that usage or a stronger one is reached, and else 0
  pub tested : (name : List ℕ) (usage : Usage) (given : Answer) → has_buffer desk.buffers name ≡ true
      → Answers desk (command.Test name usage) given → ((given ≡ answer.Value 1) ↔ IsBufferReached history name usage)
  pub tested_pending : (name : List ℕ) (usage : Usage) (given : Answer) → has_buffer desk.buffers name ≡ true
      → Answers desk (command.Test name usage) given → ((given ≡ answer.Value 0) ↔ (¬ IsBufferReached history name usage))
  -- a reservation never holds more than its places, as no table of latest points can
  pub places : (name : List ℕ) → length (entries_of desk.buffers name) ≤ PLACES

-- values are sums of increments, and the desk reports them
pub record ReportsSums (desk : DeskState) (history : List Command) : Type 0 where
  pub kept : AreSums desk.timelines (increments_in history)
  -- `value` reports the sum
  pub reported : (name : List ℕ) (value : ℕ) → Answers desk (command.Value name) (answer.Value value)
      → value ≡ incremented (increments_in history) name
  -- `inc` reports the sum with the new increment
  pub raised : (name : List ℕ) (n value : ℕ) (fired : List ℕ) → Answers desk (command.Inc name n) (answer.Raised value fired)
      → value ≡ incremented (increments_in history) name + n
  -- `shut` reports the sum, which stays
  pub shut : (name : List ℕ) (value : ℕ) (fired : List ℕ) → Answers desk (command.Shut name) (answer.Raised value fired)
      → value ≡ incremented (increments_in history) name

-- the watches that one more increment fires, by registration
abbrev pub fired_after : List Command → List ℕ → ℕ → List MadeWatch
fired_after history name n = fired_watches (world_of history) name n

-- the watches that a closing fires, by registration
abbrev pub shut_after : List Command → List ℕ → List MadeWatch
shut_after history name = shut_watches (world_of history) name

-- an increment or a closing fires the watches all of whose put points it signals, and none fires twice
pub record ReportsWhatFires (desk : DeskState) (history : List Command) : Type 0 where
  -- `inc` reports the cookies of the watches that it fires, by registration
  pub reported : (name : List ℕ) (n value : ℕ) (fired : List ℕ) → Answers desk (command.Inc name n) (answer.Raised value fired)
      → fired ≡ cookies_of (fired_after history name n)
  -- these are the pending watches whose put points are all reached at the new values
  pub due : (name : List ℕ) (n : ℕ) (x : MadeWatch) → (Contains (fired_after history name n) x
      ↔ (Contains (pending_after history) x × IsReached x.put 0 (values_after (history ++ command.Inc name n ∷ []))))
  -- and `shut` those that it fires
  pub reported_shut : (name : List ℕ) (value : ℕ) (fired : List ℕ) → Answers desk (command.Shut name) (answer.Raised value fired)
      → fired ≡ cookies_of (shut_after history name)
  pub due_shut : (name : List ℕ) (x : MadeWatch) → (Contains (shut_after history name) x
      ↔ (Contains (pending_after history) x × IsReached x.put 0 (values_after (history ++ command.Shut name ∷ []))))
  -- each registration has fired at most once
  pub once : (number : ℕ) → count_by (nat_eq number) (fired_along history) ≤ 1

-- over a run, each watch that was registered has fired, or was removed, or is pending at the end, and only one of these
pub record ReportsEachWatch (desk : DeskState) (commands : List Command) (given : List Answer) : Type 0 where
  -- of each cookie: how often it was registered, and what became of that
  pub each : (cookie : ℕ)
      → times_registered cookie commands given
      ≡ times_fired cookie given + times_removed cookie commands given + times_pending cookie desk
  -- so it is reported at most as often as it was registered
  pub fired : (cookie : ℕ) → times_fired cookie given ≤ times_registered cookie commands given
  -- and is pending at most once
  pub pending : (cookie : ℕ) → times_pending cookie desk ≤ 1
