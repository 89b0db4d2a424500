-- Invariants of the world of every history.
use Rattle.std.specs.Prelude.{◌≡◌, ℕ, ◌<◌, ◌≤◌, nat_lt, Bool, false, List, Option, None, Some, All}
use Rattle.point_core.specs.Reach.{GREATEST}
use Rattle.point_core.specs.Agreement.{AgreesAbove}
use Rattle.device_core.specs.declared.fence.Fence.{Fence}
use Rattle.device_core.specs.declared.fence.Timeline.{Timeline}
use Rattle.device_core.specs.theorem.Fences.{is_pending, entries_in, HasRisingTimelines}
use Rattle.device_core.specs.theorem.Buffers.{BufferState, entries_of}
use Rattle.device_core.specs.theorem.BufferWorld.{AreBufferFences}
use Rattle.device_core.specs.theorem.State.{FileState, Objects}
use Rattle.device_core.specs.theorem.History.{World, reach_of}

-- the timeline is open, and the value is above its own
abbrev pub is_above : Option Timeline → ℕ → Bool
is_above None value = false
is_above (Some t) value = nat_lt t.value value

-- a fence belongs to a timeline that was opened, and is pending exactly if that is open and its point is above the
-- value
pub record IsFence (d : Objects) (f : Fence) : Type 0 where
  pub numbered : 1 ≤ f.timeline
  pub given : f.timeline < d.next
  pub fits : f.value ≤ GREATEST
  pub pending : is_pending f ≡ is_above (d.timelines f.timeline) f.value

pub record AreFences (d : Objects) (fs : List Fence) : Type 0 where
  pub rising : HasRisingTimelines fs
  pub each : All (IsFence d) fs

-- no object has a number that was not given, no value is past the greatest, and each file and buffer agrees with what
-- was put into it
pub record IsSound (w : World) : Type 0 where
  pub first : 1 ≤ w.objects.next
  pub none : w.objects.timelines 0 ≡ None
  pub timelines : (n : ℕ) → w.objects.next ≤ n → w.objects.timelines n ≡ None
  pub files : (n : ℕ) → w.objects.next ≤ n → w.objects.files n ≡ None
  pub values : (n : ℕ) (t : Timeline) → w.objects.timelines n ≡ Some t → t.value ≤ GREATEST
  pub fences : (n : ℕ) (f : FileState) → w.objects.files n ≡ Some f → AreFences w.objects f.fences
  pub agrees : (n : ℕ) (f : FileState) → w.objects.files n ≡ Some f →
      AgreesAbove (reach_of w.objects) (entries_in f.fences) (w.put n)
  pub buffers : (n : ℕ) → w.objects.next ≤ n → w.objects.buffers n ≡ None
  pub one_kind : (n : ℕ) (b : BufferState) → w.objects.buffers n ≡ Some b → w.objects.files n ≡ None
  pub buffer_fences : (n : ℕ) (b : BufferState) → w.objects.buffers n ≡ Some b → AreBufferFences w.objects b.fences
  pub buffer_agrees : (n : ℕ) (b : BufferState) → w.objects.buffers n ≡ Some b →
      AgreesAbove (reach_of w.objects) (entries_of b.fences) (w.put n)
