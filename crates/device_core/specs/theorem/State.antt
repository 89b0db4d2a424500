-- A device, as contracts see it.
use Rattle.std.specs.Prelude.{◌≡◌, ℕ, ◌+◌, ◌≤◌, ◌==◌, length, max, replicate, nat_eq, nat_le, Bool, true, false, ◌&&◌, if◌then◌else◌, List, [], ◌∷◌, Option, None, Some, is_some, option_map, Result, Ok, Err, ◌||◌}
use Rattle.std.specs.List.{list_any}
use Rattle.std.specs.List.Sorted.{IsStrictlySortedBy}
use Rattle.std.specs.declared.cmp.Ordering.{Ordering}
use Rattle.std.specs.Ordering.{nat_cmp, ordering_then}
use Rattle.std.specs.Map.{lookup}
use Rattle.point_core.specs.declared.entry.Usage.{Usage}
use Rattle.device_core.specs.declared.text.Text.{Text}
use Rattle.device_core.specs.declared.fence.Signal.{Signal}
use Rattle.device_core.specs.declared.fence.Fence.{Fence}
use Rattle.device_core.specs.declared.fence.Timeline.{Timeline}
use Rattle.device_core.specs.declared.waiting_files.Waiter.{Waiter}
use Rattle.device_core.specs.declared.errno.Errno.{Errno}
use Rattle.device_core.specs.declared.errno.Errno.TheVariants.{NoEntry, WrongKind}
use Rattle.device_core.specs.theorem.Wrapping.{unwrapped}
use Rattle.device_core.specs.theorem.Fences.{latest_time, merged, waits_at, all_signalled_by, fence_of, signal_at}
use Rattle.device_core.specs.theorem.Buffers.{BufferState, exported, import_into}

-- a file: the name that it was given, its fences by rising timeline, and the time of its stub if it has none
pub record FileState : Type 0 where
  pub name : Text
  pub fences : List Fence
  pub stub_at : ℕ

abbrev pub file_of : Text → List Fence → ℕ → FileState
file_of name fences stub_at = record { name = name; fences = fences; stub_at = stub_at }

-- the next number, and the objects that are alive, by number, in no particular order
pub record DeviceState : Type 0 where
  pub next : ℕ
  pub timelines : List (ℕ × Timeline)
  pub files : List (ℕ × FileState)
  pub buffers : List (ℕ × BufferState)
  -- the points for which files wait, in order
  pub index : List Waiter

abbrev pub nothing : DeviceState
nothing = record { next = 1; timelines = []; files = []; buffers = []; index = [] }

abbrev pub at : {X : Type 0} → List (ℕ × X) → ℕ → Option X
at es number = lookup (nat_eq number) es

abbrev pub timeline_at : DeviceState → ℕ → Option Timeline
timeline_at d number = at d.timelines number

abbrev pub file_at : DeviceState → ℕ → Option FileState
file_at d number = at d.files number

abbrev pub buffer_at : DeviceState → ℕ → Option BufferState
buffer_at d number = at d.buffers number

-- the next number, and the object of each number: the contents of a device as definitions use them
pub record Objects : Type 0 where
  pub next : ℕ
  pub timelines : ℕ → Option Timeline
  pub files : ℕ → Option FileState
  pub buffers : ℕ → Option BufferState

abbrev pub no_objects : Objects
no_objects = record { next = 1; timelines = λ _. None; files = λ _. None; buffers = λ _. None }

abbrev pub objects_of : DeviceState → Objects
objects_of d = record { next = d.next; timelines = timeline_at d; files = file_at d; buffers = buffer_at d }

abbrev pub new_timeline : Text → Timeline
new_timeline name = record { name = name; value = 0 }

-- the timeline, raised by n
abbrev pub raised : Timeline → ℕ → Timeline
raised t n = record t { value = t.value + n }

-- the fence of a point that is asked for: signalled now if the timeline has reached it
abbrev pub fence_at : ℕ → Timeline → ℕ → ℕ → Fence
fence_at number t point now =
    let value = unwrapped t.value point in
    fence_of number t.name point value (if nat_le value t.value then Some (signal_at now false) else None)

abbrev pub empty_text : Text
empty_text = record { bytes = replicate 32 0 }

abbrev pub one_fence_file : ℕ → Timeline → ℕ → ℕ → FileState
one_fence_file number t point now = file_of empty_text (fence_at number t point now ∷ []) 0

-- the time of the stub of both files: the latest at which any of their fences signalled
abbrev pub merged_time : FileState → FileState → ℕ
merged_time a b = latest_time (latest_time (max a.stub_at b.stub_at) a.fences) b.fences

-- the merge of two files: a stub if none of their fences is pending
abbrev pub merged_file : Text → FileState → FileState → FileState
merged_file name a b =
    let fences = merged a.fences b.fences in
    file_of name fences (if length fences == 0 then merged_time a b else 0)

-- the merge of two open files
abbrev pub merged_files : Text → Option FileState → Option FileState → Option FileState
merged_files name None o = None
merged_files name (Some a) None = None
merged_files name (Some a) (Some b) = Some (merged_file name a b)

-- the file of an export: a stub if no fence is waiting
abbrev pub exported_file : (ℕ → Option Timeline) → Usage → BufferState → FileState
exported_file timelines usage b =
    let fences = exported timelines usage b.fences in
    file_of empty_text fences (if length fences == 0 then b.stub_at else 0)

-- the export of an open buffer, at a valid usage
abbrev pub export_of : (ℕ → Option Timeline) → Result Usage Errno → Option BufferState → Option FileState
export_of timelines (Ok usage) buffer = option_map (exported_file timelines usage) buffer
export_of timelines (Err refusal) buffer = None

-- the buffer after the import of an open file, at a valid usage
abbrev pub import_of :
    (ℕ → Option Timeline) → Result Usage Errno → Option FileState → Option BufferState → Option BufferState
import_of timelines (Ok usage) (Some f) buffer = option_map (import_into timelines usage f.fences) buffer
import_of timelines (Ok usage) None buffer = buffer
import_of timelines (Err refusal) file buffer = buffer

-- the error for a number without a timeline, file or buffer
abbrev pub missing_timeline : Objects → ℕ → Errno
missing_timeline d number = if is_some (d.files number) || is_some (d.buffers number) then WrongKind else NoEntry

abbrev pub missing_file : Objects → ℕ → Errno
missing_file d number = if is_some (d.timelines number) || is_some (d.buffers number) then WrongKind else NoEntry

abbrev pub missing_buffer : Objects → ℕ → Errno
missing_buffer d number = if is_some (d.timelines number) || is_some (d.files number) then WrongKind else NoEntry

-- the file after a timeline has signalled every pending point up to the value
abbrev pub file_signalled : ℕ → ℕ → Signal → FileState → FileState
file_signalled timeline value signal f = record f { fences = all_signalled_by timeline value signal f.fences }

abbrev pub is_same : Waiter → Waiter → Bool
is_same a b = nat_eq a.timeline b.timeline && (nat_eq a.value b.value && nat_eq a.file b.file)

abbrev pub holds : List Waiter → Waiter → Bool
holds ks k = list_any (is_same k) ks

-- by timeline, then by value, then by file
abbrev pub order : Waiter → Waiter → Ordering
order a b =
    ordering_then (nat_cmp a.timeline b.timeline) (ordering_then (nat_cmp a.value b.value) (nat_cmp a.file b.file))

abbrev pub AreInOrder : List Waiter → Type 0
AreInOrder ks = IsStrictlySortedBy order ks

-- it is of that timeline, at or below the value
abbrev pub is_due_at : ℕ → ℕ → Waiter → Bool
is_due_at timeline value k = nat_eq k.timeline timeline && nat_le k.value value

-- a file with these fences waits at that point
abbrev pub waits_of : ℕ → List Fence → Waiter → Bool
waits_of file fs k = nat_eq k.file file && waits_at k fs

-- an open file waits at that point
abbrev pub file_waits : Waiter → Option FileState → Bool
file_waits k None = false
file_waits k (Some f) = waits_at k f.fences

-- the index has the pending points of the open files, and no others
abbrev pub IsIndexed : List Waiter → List (ℕ × FileState) → Type 0
IsIndexed index files = (k : Waiter) → holds index k ≡ file_waits k (at files k.file)

-- the files after a timeline has signalled every pending point up to the value
abbrev pub AreSignalled : ℕ → ℕ → Signal → List (ℕ × FileState) → List (ℕ × FileState) → Type 0
AreSignalled timeline value signal old new =
    (q : ℕ) → at new q ≡ option_map (file_signalled timeline value signal) (at old q)

-- the invariant: no object has a number that was not given, no number is of two objects, and the index is the files'
pub record IsKept (next : ℕ) (timelines : List (ℕ × Timeline)) (files : List (ℕ × FileState))
    (buffers : List (ℕ × BufferState)) (index : List Waiter)
    : Type 0 where
  pub first : 1 ≤ next
  pub timelines_given : (n : ℕ) → next ≤ n → at timelines n ≡ None
  pub files_given : (n : ℕ) → next ≤ n → at files n ≡ None
  pub buffers_given : (n : ℕ) → next ≤ n → at buffers n ≡ None
  pub one_kind : (n : ℕ) → is_some (at files n) ≡ true → at timelines n ≡ None
  pub no_file : (n : ℕ) → is_some (at buffers n) ≡ true → at files n ≡ None
  pub no_timeline : (n : ℕ) → is_some (at buffers n) ≡ true → at timelines n ≡ None
  pub indexed : IsIndexed index files
