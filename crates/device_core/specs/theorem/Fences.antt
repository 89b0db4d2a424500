-- The fences of a file: their status, what signals them, and their merge.
use Rattle.std.specs.Prelude.{◌≡◌, ℕ, ◌≤◌, false, suc, insert, slice_get, slice_set, nat_eq, nat_lt, nat_le, max, Bool, not, ◌&&◌, if◌then◌else◌, List, [], ◌∷◌, map, filter, fold, Option, None, Some, is_some}
use Rattle.std.specs.List.{list_any, list_all}
use Rattle.std.specs.List.Sorted.{IsStrictlyIncreasing}
use Rattle.point_core.specs.declared.entry.Point.{Point}
use Rattle.point_core.specs.declared.entry.Entry.{Entry}
use Rattle.point_core.specs.declared.status.Status.{Status}
use Rattle.point_core.specs.declared.status.Status.TheVariants.{Active, Signalled, Cancelled}
use Rattle.point_core.specs.Agreement.{as_entries, point_of}
use Rattle.point_core.specs.Reach.{value_at}
use Rattle.device_core.specs.declared.text.Text.{Text}
use Rattle.device_core.specs.declared.fence.Signal.{Signal}
use Rattle.device_core.specs.declared.fence.Fence.{Fence}
use Rattle.device_core.specs.declared.waiting_files.Waiter.{Waiter}

abbrev pub signal_at : ℕ → Bool → Signal
signal_at now cancelled = record { at = now; is_cancelled = cancelled }

abbrev pub fence_of : ℕ → Text → ℕ → ℕ → Option Signal → Fence
fence_of timeline name point value signal =
    record { timeline = timeline; name = name; point = point; value = value; signal = signal }

abbrev pub is_pending : Fence → Bool
is_pending f = not (is_some f.signal)

-- pending, of that timeline, at or below the value
abbrev pub is_due : ℕ → ℕ → Fence → Bool
is_due timeline value f = is_pending f && nat_eq f.timeline timeline && nat_le f.value value

-- the fence after its timeline has signalled every pending point up to the value. A signal never changes
abbrev pub signalled_by : ℕ → ℕ → Signal → Fence → Fence
signalled_by timeline value signal f = if is_due timeline value f then record f { signal = Some signal } else f

abbrev pub all_signalled_by : ℕ → ℕ → Signal → List Fence → List Fence
all_signalled_by timeline value signal fs = map (signalled_by timeline value signal) fs

abbrev pub are_signalled : List Fence → Bool
are_signalled fs = list_all (λ f. not (is_pending f)) fs

-- the kernel's order: the status of the first fence that is pending or has an error
abbrev pub status_before : Option Signal → Status → Status
status_before None others = Active
status_before (Some s) others = if s.is_cancelled then Cancelled else others

abbrev pub status_of : List Fence → Status
status_of [] = Signalled
status_of (f ∷ fs) = status_before f.signal (status_of fs)

-- the pending fences
abbrev pub pending_of : List Fence → List Fence
pending_of fs = filter is_pending fs

-- how many of the first fences are of lower timelines
abbrev pub place_of : ℕ → List Fence → ℕ
place_of timeline [] = 0
place_of timeline (f ∷ fs) = if nat_lt f.timeline timeline then suc (place_of timeline fs) else 0

-- the fences with another one at its place, if it is given: of one timeline the later fence stays, or the one that is
-- there if they are equal
abbrev pub with_fence_at : List Fence → ℕ → Option Fence → Fence → List Fence
with_fence_at fs place None g = insert fs place g
with_fence_at fs place (Some f) g =
    if nat_eq f.timeline g.timeline
    then (if nat_lt f.value g.value then slice_set fs place g else fs)
    else insert fs place g

-- the fences with another one, by rising timeline
abbrev pub with_fence : List Fence → Fence → List Fence
with_fence fs g = let place = place_of g.timeline fs in with_fence_at fs place (slice_get fs place) g

-- the fences of a merge: the pending ones of both, the latest of each timeline, by rising timeline
abbrev pub merged : List Fence → List Fence → List Fence
merged fs gs = fold with_fence (pending_of fs) (pending_of gs)

-- the time at which it signalled, or 0
abbrev pub time_of : Option Signal → ℕ
time_of None = 0
time_of (Some s) = s.at

-- the latest such time among them and another one
abbrev pub latest_time : ℕ → List Fence → ℕ
latest_time time fs = fold (λ t (f : Fence). max t (time_of f.signal)) time fs

-- the point as point_core has it: a timeline's number is its context
abbrev pub point_in : Fence → Point
point_in f = point_of f.timeline f.value

abbrev pub entries_in : List Fence → List Entry
entries_in fs = as_entries (map point_in fs)

-- timelines are distinct, and their numbers rise
abbrev pub HasRisingTimelines : List Fence → Type 0
HasRisingTimelines fs = IsStrictlyIncreasing (map (λ (f : Fence). f.timeline) fs)

-- a file's number, at a point for which it waits
abbrev pub waiter : ℕ → Fence → Waiter
waiter file f = record { timeline = f.timeline; value = f.value; file = file }

-- some pending fence is at that point
abbrev pub waits_at : Waiter → List Fence → Bool
waits_at k fs = list_any (λ f. is_pending f && (nat_eq f.timeline k.timeline && nat_eq f.value k.value)) fs

-- a fence that has signalled is reached
abbrev pub IsReachedUnlessPending : List ℕ → Fence → Type 0
IsReachedUnlessPending reach f = is_pending f ≡ false → f.value ≤ value_at reach f.timeline
