-- The fences of a buffer, each with its usage.
use Rattle.std.specs.Prelude.{◌≡◌, ℕ, ◌+◌, ◌*◌, max, ◌==◌, ◌≤◌, ◌<◌, ◌%◌, ◌^◌, Bool, false, not, ◌||◌, nat_le, nat_lt, if◌then◌else◌, List, [], ◌∷◌, length, map, filter, fold, Option, None, Some, All, Contains, Result, Ok, Err}
use Rattle.std.specs.List.{filter_map, list_all}
use Rattle.point_core.specs.declared.entry.Entry.{Entry}
use Rattle.point_core.specs.declared.entry.Usage.{Usage}
use Rattle.point_core.specs.declared.entry.Usage.TheVariants.{Write, Read}
use Rattle.point_core.specs.Agreement.{as_entry, covers, point_of}
use Rattle.point_core.specs.Reach.{value_at}
use Rattle.point_core.specs.Usage.{usage_number}
use Rattle.device_core.specs.declared.fence.Fence.{Fence}
use Rattle.device_core.specs.declared.fence.Timeline.{Timeline}
use Rattle.device_core.specs.declared.buffer.TheConstants.{GROWTH, UNTRIMMED}
use Rattle.device_core.specs.declared.buffer_fence.BufferFence.{BufferFence}
use Rattle.device_core.specs.declared.errno.Errno.{Errno}
use Rattle.device_core.specs.declared.errno.Errno.TheVariants.{Invalid}
use Rattle.device_core.specs.theorem.Fences.{are_signalled, fence_of, pending_of, with_fence}

-- a buffer: its fences, how many it had after the import that trimmed it last, and the time of the stub of an idle buffer
pub record BufferState : Type 0 where
  pub fences : List BufferFence
  pub left : ℕ
  pub stub_at : ℕ

abbrev pub state_of : List BufferFence → ℕ → ℕ → BufferState
state_of fences left stub_at = record { fences = fences; left = left; stub_at = stub_at }

abbrev pub empty_buffer : ℕ → BufferState
empty_buffer stub_at = state_of [] 0 stub_at

-- the fence as an entry of point_core
abbrev pub entry_of : BufferFence → Entry
entry_of h = record { point = point_of h.timeline h.value; usage = h.usage }

abbrev pub entries_of : List BufferFence → List Entry
entries_of hs = map entry_of hs

-- the timeline is open, and has not reached the point
abbrev pub waits_in : Option Timeline → ℕ → Bool
waits_in None value = false
waits_in (Some t) value = nat_lt t.value value

abbrev pub is_waiting : (ℕ → Option Timeline) → BufferFence → Bool
is_waiting timelines h = waits_in (timelines h.timeline) h.value

-- the reach is the timelines', as far as these fences go: an open one has its value, and these fences of closed ones
-- are reached
pub record IsReachOf (timelines : ℕ → Option Timeline) (hs : List BufferFence) (reach : List ℕ) : Type 0 where
  pub values : (n : ℕ) (t : Timeline) → timelines n ≡ Some t → value_at reach n ≡ t.value
  pub closed : (h : BufferFence) → Contains hs h → timelines h.timeline ≡ None → h.value ≤ value_at reach h.timeline

-- the weakest usage for which an access with these flags waits: writers if it only reads, else readers too
abbrev pub export_usage : ℕ → Result Usage Errno
export_usage flags = if flags == 1 then Ok Write else if flags == 2 || flags == 3 then Ok Read else Err Invalid

-- the usage of such an access: reading if it only reads, else writing
abbrev pub import_usage : ℕ → Result Usage Errno
import_usage flags = if flags == 1 then Ok Read else if flags == 2 || flags == 3 then Ok Write else Err Invalid

abbrev pub put_as : Usage → Fence → BufferFence
put_as usage f = record { timeline = f.timeline; value = f.value; usage = usage }

-- the fences that an import of a file puts in: its pending ones
abbrev pub imported : Usage → List Fence → List BufferFence
imported usage fs = map (put_as usage) (pending_of fs)

-- the fences with one more: it takes the place of the first that it covers, or comes last
abbrev pub with_buffer_fence : List BufferFence → BufferFence → List BufferFence
with_buffer_fence [] g = g ∷ []
with_buffer_fence (h ∷ hs) g = if covers (entry_of g) (entry_of h) then g ∷ hs else h ∷ with_buffer_fence hs g

-- with that many more fences the table would have grown too much since its last trim
abbrev pub has_grown : ℕ → ℕ → List BufferFence → Bool
has_grown left more hs = nat_lt (GROWTH * max left UNTRIMMED) (length hs + more)

-- the buffer with more fences, each put in its place
abbrev pub with_fences : BufferState → List BufferFence → BufferState
with_fences b put = record b { fences = fold with_buffer_fence b.fences put }

-- the same after a trim, which leaves the waiting fences. The new fences are pending too, so all fences then are
abbrev pub trimmed_with : (ℕ → Option Timeline) → BufferState → List BufferFence → BufferState
trimmed_with timelines b put =
    let fences = fold with_buffer_fence (filter (is_waiting timelines) b.fences) put in
    record b { fences = fences; left = length fences }

-- the buffer after an import; a file without pending fences changes nothing
abbrev pub import_into : (ℕ → Option Timeline) → Usage → List Fence → BufferState → BufferState
import_into timelines usage fs b =
    if are_signalled fs
    then b
    else (if has_grown b.left (length fs) b.fences
    then trimmed_with timelines b (imported usage fs)
    else with_fences b (imported usage fs))

-- the entry has the usage or a stronger one
abbrev pub is_within : Usage → Entry → Bool
is_within usage e = nat_le (usage_number e.usage) (usage_number usage)

-- the entries of a file that is exported at a usage from a buffer with these entries
abbrev pub at_usage : Usage → List Entry → List Entry
at_usage usage es = map (λ (e : Entry). as_entry e.point) (filter (is_within usage) es)

-- no fence of the usage or a stronger one is waiting
abbrev pub none_waits : (ℕ → Option Timeline) → Usage → List BufferFence → Bool
none_waits timelines usage hs =
    list_all (λ h. not (is_within usage (entry_of h)) || not (is_waiting timelines h)) hs

-- the pending fence of a point: the timeline has its name, and the point of 32 bits is the low half
abbrev pub fence_waiting : ℕ → ℕ → Option Timeline → Option Fence
fence_waiting number value None = None
fence_waiting number value (Some t) =
    if nat_lt t.value value then Some (fence_of number t.name (value % 2 ^ 32) value None) else None

-- the same for a fence of the usage or a stronger one
abbrev pub waiting_fence : (ℕ → Option Timeline) → Usage → BufferFence → Option Fence
waiting_fence timelines usage h =
    if is_within usage (entry_of h) then fence_waiting h.timeline h.value (timelines h.timeline) else None

-- the fences of an export: the waiting ones, the latest of each timeline, by rising timeline
abbrev pub exported : (ℕ → Option Timeline) → Usage → List BufferFence → List Fence
exported timelines usage hs = fold with_fence [] (filter_map (waiting_fence timelines usage) hs)

-- it is the pending fence of a point of an open timeline
abbrev pub IsWaitingAt : Fence → Option Timeline → Type 0
IsWaitingAt f None = ⊥
IsWaitingAt f (Some t) = (t.value < f.value) × (f ≡ fence_of f.timeline t.name (f.value % 2 ^ 32) f.value None)

abbrev pub AreWaiting : (ℕ → Option Timeline) → List Fence → Type 0
AreWaiting timelines fs = All (λ (f : Fence). IsWaitingAt f (timelines f.timeline)) fs
