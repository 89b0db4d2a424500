-- The device after an accepted request, the cause to refuse a request, and the answer.
use Rattle.std.specs.Prelude.{◌≡◌, ◌↔◌, ℕ, ◌+◌, ◌^◌, nat_eq, nat_le, Bool, true, false, not, ◌&&◌, ◌||◌, if◌then◌else◌, List, Option, None, Some, is_some, option_map, Contains, Result, Ok, Err}
use Rattle.std.specs.List.{list_any, range_with_len}
use Rattle.std.specs.List.Sorted.{IsStrictlyIncreasing}
use Rattle.point_core.specs.Reach.{GREATEST}
use Rattle.point_core.specs.declared.entry.Usage.{Usage}
use Rattle.device_core.specs.declared.text.Text.{Text}
use Rattle.device_core.specs.declared.fence.Signal.{Signal}
use Rattle.device_core.specs.declared.fence.Timeline.{Timeline}
use Rattle.device_core.specs.declared.errno.Errno.{Errno}
use Rattle.device_core.specs.declared.errno.Errno.TheVariants.{NoEntry, NoMemory, NoNumber, Invalid, Overflow}
use Rattle.device_core.specs.declared.request.Request.{Request}
use Rattle.device_core.specs.declared.request.Request.TheVariants as request
use Rattle.device_core.specs.declared.request.Reply.{Reply}
use Rattle.device_core.specs.declared.request.Reply.TheVariants as answer
use Rattle.device_core.specs.theorem.Wrapping.{unwrapped}
use Rattle.device_core.specs.theorem.Fences.{signal_at, are_signalled, status_of}
use Rattle.device_core.specs.theorem.Buffers.{BufferState, empty_buffer, export_usage, import_usage, none_waits}
use Rattle.device_core.specs.theorem.Info.{IsInfo}
use Rattle.device_core.specs.theorem.State.{FileState, Objects, new_timeline, raised, one_fence_file, merged_files, file_signalled, export_of, import_of, missing_timeline, missing_file, missing_buffer}

-- a table by number, with one number changed
abbrev pub with_at : {X : Type 0} → (ℕ → X) → ℕ → X → ℕ → X
with_at kept number x q = if nat_eq number q then x else kept q

-- the value of a timeline; without one it is never looked at
abbrev pub value_in : Option Timeline → ℕ
value_in None = 0
value_in (Some t) = t.value

abbrev pub opened : Objects → Text → Objects
opened d name = record d { next = d.next + 1; timelines = with_at d.timelines d.next (Some (new_timeline name)) }

abbrev pub with_file : Objects → Option FileState → Objects
with_file d file = record d { next = d.next + 1; files = with_at d.files d.next file }

-- a timeline is changed or closed, and its pending fences up to the value are signalled
abbrev pub with_signals : Objects → ℕ → Option Timeline → ℕ → Signal → Objects
with_signals d timeline new value signal = record d {
  timelines = with_at d.timelines timeline new;
  files = λ q. option_map (file_signalled timeline value signal) (d.files q);
}

-- the timeline with that number rises by n
abbrev pub risen : Objects → ℕ → ℕ → ℕ → Objects
risen d timeline n now =
    with_signals d timeline (option_map (λ t. raised t n) (d.timelines timeline)) (value_in (d.timelines timeline) + n)
    (signal_at now false)

abbrev pub closed_timeline : Objects → ℕ → ℕ → Objects
closed_timeline d timeline now = with_signals d timeline None GREATEST (signal_at now true)

-- the file or buffer with that number is removed
abbrev pub dropped : Objects → ℕ → Objects
dropped d number = record d { files = with_at d.files number None; buffers = with_at d.buffers number None }

abbrev pub closed : Objects → ℕ → ℕ → Objects
closed d number now = if is_some (d.timelines number) then closed_timeline d number now else dropped d number

abbrev pub with_new_buffer : Objects → ℕ → Objects
with_new_buffer d now =
    record d { next = d.next + 1; buffers = with_at d.buffers d.next (Some (empty_buffer now)) }

abbrev pub with_buffer : Objects → ℕ → Option BufferState → Objects
with_buffer d number buffer = record d { buffers = with_at d.buffers number buffer }

-- the device after an accepted request
abbrev pub after : Objects → Request → Objects
after d (request.Open name) = opened d name
after d (request.Fence timeline point now) =
    with_file d (option_map (λ t. one_fence_file timeline t point now) (d.timelines timeline))
after d (request.Inc timeline n now) = risen d timeline n now
after d (request.Merge a b name) = with_file d (merged_files name (d.files a) (d.files b))
after d (request.Status file) = d
after d (request.IsSignalled file) = d
after d (request.Info file) = d
after d (request.Close number now) = closed d number now
after d (request.Buffer now) = with_new_buffer d now
after d (request.Export buffer flags) =
    with_file d (export_of d.timelines (export_usage flags) (d.buffers buffer))
after d (request.Import buffer file flags) =
    with_buffer d buffer (import_of d.timelines (import_usage flags) (d.files file) (d.buffers buffer))
after d (request.Test buffer usage) = d

-- it does not fit 64 bits
abbrev pub overflow : ℕ → Option Errno
overflow value = if nat_le (2 ^ 64) value then Some Overflow else None

-- the cause at an open timeline, or the error for a number without one
abbrev pub cause_at_timeline : Objects → ℕ → Option Errno → Option Errno
cause_at_timeline d number cause = if is_some (d.timelines number) then cause else Some (missing_timeline d number)

-- the cause at a file, or the error for a number without one
abbrev pub cause_at_file : Objects → ℕ → Option Errno → Option Errno
cause_at_file d number cause = if is_some (d.files number) then cause else Some (missing_file d number)

-- the cause at a buffer, or the error for a number without one
abbrev pub cause_at_buffer : Objects → ℕ → Option Errno → Option Errno
cause_at_buffer d number cause = if is_some (d.buffers number) then cause else Some (missing_buffer d number)

-- the cause after valid flags, or the error of the flags
abbrev pub cause_after : Result Usage Errno → Option Errno → Option Errno
cause_after (Ok usage) cause = cause
cause_after (Err refusal) cause = Some refusal

-- something has that number
abbrev pub is_there : Objects → ℕ → Bool
is_there d number = is_some (d.timelines number) || (is_some (d.files number) || is_some (d.buffers number))

-- the cause for a request that makes an object, after there is a number for it
abbrev pub cause_if_numbered : Objects → Option Errno → Option Errno
cause_if_numbered d cause = if nat_le GREATEST d.next then Some NoNumber else cause

-- the first cause to refuse a request, other than memory
abbrev pub cause_of : Objects → Request → Option Errno
cause_of d (request.Open name) = cause_if_numbered d None
cause_of d (request.Fence timeline point now) =
    cause_if_numbered d
    (cause_at_timeline d timeline (overflow (unwrapped (value_in (d.timelines timeline)) point)))
cause_of d (request.Inc timeline n now) = cause_at_timeline d timeline (overflow (value_in (d.timelines timeline) + n))
cause_of d (request.Merge a b name) =
    cause_if_numbered d (cause_at_file d a (if is_some (d.files b) then None else Some NoEntry))
cause_of d (request.Status file) = cause_at_file d file None
cause_of d (request.IsSignalled file) = cause_at_file d file None
cause_of d (request.Info file) = cause_at_file d file None
cause_of d (request.Close number now) = if is_there d number then None else Some NoEntry
cause_of d (request.Buffer now) = cause_if_numbered d None
cause_of d (request.Export buffer flags) =
    cause_if_numbered d (cause_at_buffer d buffer (cause_after (export_usage flags) None))
cause_of d (request.Import buffer file flags) =
    cause_at_buffer d buffer (cause_after (import_usage flags) (if is_some (d.files file) then None else Some Invalid))
cause_of d (request.Test buffer usage) = cause_at_buffer d buffer None

-- a file that is there and has not signalled, and one that has
abbrev pub is_waiting : Option FileState → Bool
is_waiting None = false
is_waiting (Some f) = not (are_signalled f.fences)

abbrev pub has_signalled : Option FileState → Bool
has_signalled None = false
has_signalled (Some f) = are_signalled f.fences

-- some file waits before, and has signalled after
abbrev pub wakes_some : Objects → Objects → Bool
wakes_some old new = list_any (λ n. is_waiting (old.files n) && has_signalled (new.files n)) (range_with_len 0 old.next)

-- the request may fail for lack of memory: it makes something, puts something in, reports a list or wakes a file
abbrev pub takes_memory : Objects → Request → Bool
takes_memory d (request.Open name) = true
takes_memory d (request.Fence timeline point now) = true
takes_memory d (request.Inc timeline n now) = wakes_some d (risen d timeline n now)
takes_memory d (request.Merge a b name) = true
takes_memory d (request.Status file) = false
takes_memory d (request.IsSignalled file) = false
takes_memory d (request.Info file) = true
takes_memory d (request.Close number now) = wakes_some d (closed d number now)
takes_memory d (request.Buffer now) = true
takes_memory d (request.Export buffer flags) = true
takes_memory d (request.Import buffer file flags) = true
takes_memory d (request.Test buffer usage) = false

-- the files that waited and have signalled, each once, by rising number: there is exactly one such list
pub record AreWoken (old new : Objects) (woken : List ℕ) : Type 0 where
  pub all : (n : ℕ) → (Contains woken n ↔ ((is_waiting (old.files n) ≡ true) × (has_signalled (new.files n) ≡ true)))
  pub rising : IsStrictlyIncreasing woken

-- the answer has such a list
abbrev pub OnWoken : (List ℕ → Type 0) → Reply → Type 0
OnWoken such (answer.Number n) = ⊥
OnWoken such (answer.Woken woken) = such woken.items
OnWoken such (answer.Status status) = ⊥
OnWoken such (answer.Signalled signalled) = ⊥
OnWoken such (answer.Info info) = ⊥
OnWoken such answer.Done = ⊥

-- the answer reports on an object that is there
abbrev pub OnObject : {X : Type 0} → Option X → (X → Reply) → Reply → Type 0
OnObject None told given = ⊥
OnObject (Some x) told given = given ≡ told x

-- the answer is the information on the file with this number
abbrev pub OnInfo : ℕ → Option FileState → Reply → Type 0
OnInfo number None given = ⊥
OnInfo number (Some f) (answer.Number n) = ⊥
OnInfo number (Some f) (answer.Woken woken) = ⊥
OnInfo number (Some f) (answer.Status status) = ⊥
OnInfo number (Some f) (answer.Signalled signalled) = ⊥
OnInfo number (Some f) (answer.Info info) = IsInfo number f info
OnInfo number (Some f) answer.Done = ⊥

-- the answer to an accepted request
abbrev pub Reports : Objects → Request → Reply → Type 0
Reports d (request.Open name) given = given ≡ answer.Number d.next
Reports d (request.Fence timeline point now) given = given ≡ answer.Number d.next
Reports d (request.Inc timeline n now) given = OnWoken (AreWoken d (risen d timeline n now)) given
Reports d (request.Merge a b name) given = given ≡ answer.Number d.next
Reports d (request.Status file) given = OnObject (d.files file) (λ f. answer.Status (status_of f.fences)) given
Reports d (request.IsSignalled file) given =
    OnObject (d.files file) (λ f. answer.Signalled (are_signalled f.fences)) given
Reports d (request.Info file) given = OnInfo file (d.files file) given
Reports d (request.Close number now) given = OnWoken (AreWoken d (closed d number now)) given
Reports d (request.Buffer now) given = given ≡ answer.Number d.next
Reports d (request.Export buffer flags) given = given ≡ answer.Number d.next
Reports d (request.Import buffer file flags) given = given ≡ answer.Done
Reports d (request.Test buffer usage) given =
    OnObject (d.buffers buffer) (λ b. answer.Signalled (none_waits d.timelines usage b.fences)) given

-- the refusal is the first cause, or that memory is short if there is none
abbrev pub IsCause : Option Errno → Bool → Errno → Type 0
IsCause (Some cause) takes given = given ≡ cause
IsCause None takes given = (given ≡ NoMemory) × (takes ≡ true)

-- the answer of a device to a request
abbrev pub IsAnswer : Objects → Request → Result Reply Errno → Type 0
IsAnswer d asked (Ok given) = (cause_of d asked ≡ None) × Reports d asked given
IsAnswer d asked (Err refusal) = IsCause (cause_of d asked) (takes_memory d asked) refusal
