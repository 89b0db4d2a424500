-- Commands that commute: whichever of the two is made first, both get the same answers, and the worlds after both are alike.
use Rattle.std.specs.Prelude.{◌≡◌, ℕ, ◌+◌, ◌≤◌, Bool, false, ◌&&◌, ◌||◌, List, [], length, Contains, ⊤}
use Rattle.point_core.specs.declared.entry.Entry.{Entry}
use Rattle.point_core.specs.Named.{same_name}
use Rattle.point_core.specs.Reach.{value_at}
use Rattle.timeline_core.specs.Timeline.{context_of, reach_of}
use Rattle.syncfile_core.specs.declared.files.TheConstants.{FILES}
use Rattle.command_core.specs.declared.command.Command.{Command}
use Rattle.command_core.specs.declared.command.Command.TheVariants as command
use Rattle.desk_core.specs.theorem.World.{World, put_set, buffer_put_set}
use Rattle.desk_core.specs.theorem.Answer.{answer_to, is_refused}
use Rattle.desk_core.specs.Sound.{IsSound}
use Rattle.explore_core.specs.Alike.{AreAlike, after_answer}

-- it depends on the timeline's value
abbrev pub reads_value : Command → List ℕ → Bool
reads_value (command.Inc t n) name = same_name t name
reads_value (command.Value t) name = same_name t name
reads_value (command.Shut t) name = same_name t name
reads_value _ name = false

-- it depends on whether the timeline is open
abbrev pub reads_open : Command → List ℕ → Bool
reads_open (command.Inc t n) name = same_name t name
reads_open (command.Shut t) name = same_name t name
reads_open (command.Fence f t p) name = same_name t name
reads_open _ name = false

-- for each file and each buffer, the timelines whose points may be pending in it
pub record Bounds : Type 0 where
  pub file : List ℕ → List ℕ → Bool
  pub buffer : List ℕ → List ℕ → Bool

-- It depends on which points of the timeline are reached. A file that is merged or exported lists the points that are pending when it
-- is made, which matters if `info` asks for it. A `wait` that is accepted stays accepted, since no value falls.
abbrev pub reads_reach : (List ℕ → Bool) → Bounds → Command → List ℕ → Bool
reads_reach asked bounds (command.Merge f a b) name = asked f && (bounds.file a name || bounds.file b name)
reads_reach asked bounds (command.Export f b flags) name = asked f && bounds.buffer b name
reads_reach asked bounds (command.Info f) name = bounds.file f name
reads_reach asked bounds (command.Test b u) name = bounds.buffer b name
reads_reach asked bounds (command.Show b) name = bounds.buffer b name
reads_reach asked bounds _ name = false

-- it depends on the file of that name, or on whether there is one
abbrev pub reads_file : Command → List ℕ → Bool
reads_file (command.Fence f t p) name = same_name f name
reads_file (command.Merge f a b) name = same_name f name || (same_name a name || same_name b name)
reads_file (command.Close f) name = same_name f name
reads_file (command.Wait f) name = same_name f name
reads_file (command.Info f) name = same_name f name
reads_file (command.Import b f flags) name = same_name f name
reads_file (command.Export f b flags) name = same_name f name
reads_file _ name = false

-- it depends on what was put into the buffer
abbrev pub reads_buffer : Command → List ℕ → Bool
reads_buffer (command.Export f b flags) name = same_name b name
reads_buffer (command.Test b u) name = same_name b name
reads_buffer (command.Show b) name = same_name b name
reads_buffer _ name = false

-- the command, if it is accepted, changes nothing that the other depends on
abbrev pub LeavesAlone : (List ℕ → Bool) → Bounds → Command → Command → Type 0
LeavesAlone asked bounds (command.Inc t n) other = (reads_value other t ≡ false) × (reads_reach asked bounds other t ≡ false)
LeavesAlone asked bounds (command.Shut t) other = (reads_open other t ≡ false) × (reads_reach asked bounds other t ≡ false)
LeavesAlone asked bounds (command.Fence f t p) other = reads_file other f ≡ false
LeavesAlone asked bounds (command.Merge f a b) other = reads_file other f ≡ false
LeavesAlone asked bounds (command.Export f b flags) other = reads_file other f ≡ false
LeavesAlone asked bounds (command.Close f) other = reads_file other f ≡ false
LeavesAlone asked bounds (command.Add b t p u) other = reads_buffer other b ≡ false
LeavesAlone asked bounds (command.Import b f flags) other = reads_buffer other b ≡ false
LeavesAlone asked bounds _ other = ⊤

-- It neither makes a timeline or a buffer, nor concerns watches, nor reports everything. Every other command depends on each command.
abbrev pub IsNarrow : Command → Type 0
IsNarrow (command.Timeline t) = ⊥
IsNarrow (command.Buffer b) = ⊥
IsNarrow (command.Watch f cookie) = ⊥
IsNarrow (command.Unwatch cookie) = ⊥
IsNarrow command.Report = ⊥
IsNarrow _ = ⊤

-- Neither changes what the other depends on. Both may put points into one buffer: the order makes no difference.
pub record AreIndependent (asked : List ℕ → Bool) (bounds : Bounds) (c d : Command) : Type 0 where
  pub first : IsNarrow c
  pub second : IsNarrow d
  pub forward : LeavesAlone asked bounds c d
  pub backward : LeavesAlone asked bounds d c

-- if it is a `wait`, it is accepted
abbrev pub Passes : World → Command → Type 0
Passes w (command.Wait f) = is_refused (answer_to w (command.Wait f)) ≡ false
Passes w _ = ⊤

-- each point of the context is reached
abbrev pub AreReached : List ℕ → List Entry → ℕ → Type 0
AreReached reach es ctx = (e : Entry) → Contains es e → e.point.ctx ≡ ctx → e.point.value ≤ value_at reach ctx

-- in each file and each buffer only points of these timelines are pending
pub record IsWithin (bounds : Bounds) (w : World) : Type 0 where
  pub files : (file name : List ℕ) → bounds.file file name ≡ false →
      AreReached (reach_of w.timelines) (put_set w.files file) (context_of w.timelines name)
  pub buffers : (buffer name : List ℕ) → bounds.buffer buffer name ≡ false →
      AreReached (reach_of w.timelines) (buffer_put_set w.buffers buffer) (context_of w.timelines name)

-- a sound world with room for two more files, where no watch is pending
pub record IsRoomy (w : World) : Type 0 where
  pub sound : IsSound w
  pub files : length w.files + 2 ≤ FILES
  pub watches : w.watches ≡ []

-- whichever is made first, both get the same answers, and the worlds after both are alike
pub record Commute (asked : List ℕ → Bool) (w : World) (c d : Command) : Type 0 where
  pub first : answer_to (after_answer w d) c ≡ answer_to w c
  pub second : answer_to (after_answer w c) d ≡ answer_to w d
  pub worlds : AreAlike asked (after_answer (after_answer w d) c) (after_answer (after_answer w c) d)
