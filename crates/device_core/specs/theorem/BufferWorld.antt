-- Buffers among the other objects of a device.
use Rattle.std.specs.Prelude.{◌≡◌, ℕ, ◌<◌, ◌≤◌, List, map, None, All}
use Rattle.point_core.specs.declared.entry.Entry.{Entry}
use Rattle.point_core.specs.declared.entry.Usage.{Usage}
use Rattle.point_core.specs.Reach.{GREATEST}
use Rattle.device_core.specs.declared.buffer_fence.BufferFence.{BufferFence}
use Rattle.device_core.specs.theorem.State.{Objects}

-- a fence of a buffer belongs to a timeline that was opened
pub record IsBufferFence (next : ℕ) (h : BufferFence) : Type 0 where
  pub numbered : 1 ≤ h.timeline
  pub given : h.timeline < next
  pub fits : h.value ≤ GREATEST

abbrev pub AreBufferFences : Objects → List BufferFence → Type 0
AreBufferFences d hs = All (IsBufferFence d.next) hs

-- no timeline has a number that was not given
pub record HasGivenTimelines (d : Objects) : Type 0 where
  pub none : d.timelines 0 ≡ None
  pub given : (n : ℕ) → d.next ≤ n → d.timelines n ≡ None

-- the entries that an import of a file with these entries puts into a buffer
abbrev pub put_with : Usage → List Entry → List Entry
put_with usage es = map (λ (e : Entry). record { point = e.point; usage = usage }) es
