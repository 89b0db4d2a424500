-- Which objects are open after a history, and why a request is refused then. Objects get the numbers from 1 on, in the
-- order in which they are made, and each is open until a request closes its number.
use Rattle.std.specs.Prelude.{ℕ, zero, suc, ◌+◌, ◌^◌, ◌==◌, nat_eq, nat_le, Bool, true, false, not, ◌&&◌, ◌||◌, if◌then◌else◌, List, [], ◌∷◌, ◌++◌, length, slice_get, Option, None, Some, is_some, ⊤, ◌<◌, All}
use Rattle.std.specs.List.{filter_map, list_any}
use Rattle.point_core.specs.Reach.{GREATEST}
use Rattle.device_core.specs.declared.errno.Errno.{Errno}
use Rattle.device_core.specs.declared.errno.Errno.TheVariants.{NoEntry, WrongKind, NoNumber, Invalid, Overflow}
use Rattle.device_core.specs.declared.request.Request.{Request}
use Rattle.device_core.specs.declared.request.Request.TheVariants as request
use Rattle.device_core.specs.theorem.Wrapping.{unwrapped}
use Rattle.device_core.specs.theorem.History.{sum_of}

pub data Kind : Type 0 where
  TimelineKind : Kind
  FileKind : Kind
  BufferKind : Kind

-- the kind of object that a request makes
abbrev pub kind_made : Request → Option Kind
kind_made (request.Open name) = Some TimelineKind
kind_made (request.Fence timeline point now) = Some FileKind
kind_made (request.Inc timeline n now) = None
kind_made (request.Merge a b name) = Some FileKind
kind_made (request.Status file) = None
kind_made (request.IsSignalled file) = None
kind_made (request.Info file) = None
kind_made (request.Close number now) = None
kind_made (request.Buffer now) = Some BufferKind
kind_made (request.Export buffer flags) = Some FileKind
kind_made (request.Import buffer file flags) = None
kind_made (request.Test buffer usage) = None

-- the kinds of all objects, in the order in which they were made
abbrev pub kinds : List Request → List Kind
kinds history = filter_map kind_made history

-- the kind of the object that was given the number
abbrev pub kind_given : List Request → ℕ → Option Kind
kind_given history zero = None
kind_given history (suc earlier) = slice_get (kinds history) earlier

-- the request closes the number
abbrev pub closes : ℕ → Request → Bool
closes number (request.Open name) = false
closes number (request.Fence timeline point now) = false
closes number (request.Inc timeline n now) = false
closes number (request.Merge a b name) = false
closes number (request.Status file) = false
closes number (request.IsSignalled file) = false
closes number (request.Info file) = false
closes number (request.Close other now) = nat_eq other number
closes number (request.Buffer now) = false
closes number (request.Export buffer flags) = false
closes number (request.Import buffer file flags) = false
closes number (request.Test buffer usage) = false

abbrev pub is_closed : List Request → ℕ → Bool
is_closed history number = list_any (closes number) history

-- the kind of the open object with the number
abbrev pub open_kind : List Request → ℕ → Option Kind
open_kind history number = if is_closed history number then None else kind_given history number

abbrev pub is_timeline : Option Kind → Bool
is_timeline None = false
is_timeline (Some TimelineKind) = true
is_timeline (Some FileKind) = false
is_timeline (Some BufferKind) = false

abbrev pub is_file : Option Kind → Bool
is_file None = false
is_file (Some TimelineKind) = false
is_file (Some FileKind) = true
is_file (Some BufferKind) = false

abbrev pub is_buffer : Option Kind → Bool
is_buffer None = false
is_buffer (Some TimelineKind) = false
is_buffer (Some FileKind) = false
is_buffer (Some BufferKind) = true

abbrev pub cause : Bool → Errno → Bool × Errno
cause holds refusal = (holds, refusal)

-- the first refusal whose cause holds
abbrev pub first_cause : List (Bool × Errno) → Option Errno
first_cause [] = None
first_cause (c ∷ cs) = if c.0 then Some c.1 else first_cause cs

-- the number's object is open, but of another kind than wanted, or no object with the number is open
abbrev pub unless_open : (Option Kind → Bool) → Option Kind → List (Bool × Errno)
unless_open is_wanted kind =
    cause (is_some kind && not (is_wanted kind)) WrongKind ∷ cause (not (is_some kind)) NoEntry ∷ []

-- no number is left for another object
abbrev pub unless_numbered : List Request → List (Bool × Errno)
unless_numbered history = cause (nat_le GREATEST (length (kinds history) + 1)) NoNumber ∷ []

-- the value doesn't fit 64 bits
abbrev pub unless_fitting : ℕ → List (Bool × Errno)
unless_fitting value = cause (nat_le (2 ^ 64) value) Overflow ∷ []

-- the flags of an export or an import are none of reading, writing and both
abbrev pub unless_flags : ℕ → List (Bool × Errno)
unless_flags flags = cause (not (flags == 1 || flags == 2 || flags == 3)) Invalid ∷ []

-- the causes to refuse a request after a history, in the order in which they are reported. A request without these may
-- only lack memory
abbrev pub causes : List Request → Request → List (Bool × Errno)
causes history (request.Open name) = unless_numbered history
causes history (request.Fence timeline point now) =
    unless_numbered history ++ unless_open is_timeline (open_kind history timeline)
    ++ unless_fitting (unwrapped (sum_of timeline history) point)
causes history (request.Inc timeline n now) =
    unless_open is_timeline (open_kind history timeline) ++ unless_fitting (sum_of timeline history + n)
causes history (request.Merge a b name) =
    unless_numbered history ++ unless_open is_file (open_kind history a)
    ++ cause (not (is_file (open_kind history b))) NoEntry ∷ []
causes history (request.Status file) = unless_open is_file (open_kind history file)
causes history (request.IsSignalled file) = unless_open is_file (open_kind history file)
causes history (request.Info file) = unless_open is_file (open_kind history file)
causes history (request.Close number now) = cause (not (is_some (open_kind history number))) NoEntry ∷ []
causes history (request.Buffer now) = unless_numbered history
causes history (request.Export buffer flags) =
    unless_numbered history ++ unless_open is_buffer (open_kind history buffer) ++ unless_flags flags
causes history (request.Import buffer file flags) =
    unless_open is_buffer (open_kind history buffer) ++ unless_flags flags
    ++ cause (not (is_file (open_kind history file))) Invalid ∷ []
causes history (request.Test buffer usage) = unless_open is_buffer (open_kind history buffer)

-- the request's point has 32 bits, as each that is given as a `u32` does
abbrev pub Has32Bits : Request → Type 0
Has32Bits (request.Open name) = ⊤
Has32Bits (request.Fence timeline point now) = point < 2 ^ 32
Has32Bits (request.Inc timeline n now) = ⊤
Has32Bits (request.Merge a b name) = ⊤
Has32Bits (request.Status file) = ⊤
Has32Bits (request.IsSignalled file) = ⊤
Has32Bits (request.Info file) = ⊤
Has32Bits (request.Close number now) = ⊤
Has32Bits (request.Buffer now) = ⊤
Has32Bits (request.Export buffer flags) = ⊤
Has32Bits (request.Import buffer file flags) = ⊤
Has32Bits (request.Test buffer usage) = ⊤

abbrev pub Have32Bits : List Request → Type 0
Have32Bits requests = All Has32Bits requests
