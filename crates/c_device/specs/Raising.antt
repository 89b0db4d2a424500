-- An increment from C: the request, and what it stores.
use Rattle.std.specs.Prelude.{◌≡◌, ℕ, ℤ, Bool, true, false, length, Option, None, Some, Result, Ok, Err}
use Rattle.point_core.specs.Reach.{GREATEST}
use Rattle.device_core.specs.declared.errno.Errno.{Errno}
use Rattle.device_core.specs.declared.request.Reply.{Reply}
use Rattle.device_core.specs.declared.request.Request.TheVariants as request
use Rattle.device_core.specs.theorem.State.{DeviceState}
use Rattle.device_core.specs.theorem.Times.{woken_in}
use Rattle.c_device.specs.declared.handle.DeviceHandle.{DeviceHandle}
use Rattle.c_device.specs.declared.rows.CRaised.{CRaised}
use Rattle.c_device.specs.Call.{number_of}
use Rattle.c_device.specs.Handle.{is_open}
use Rattle.c_device.specs.Queries.{AnswersDue, found_or, point_or_none}
use Rattle.c_device.specs.Service.{ServiceState, IsStep}

-- the point that a query found; the timeline of an accepted increment is open, so the query finds it
abbrev pub due_point : Result (Option ℕ) Errno → ℕ
due_point (Ok first) = point_or_none first
due_point (Err refusal) = 0

-- how many files the reply wakes, and the timeline's first point that is pending after it
pub record HasRaised (after : DeviceState) (timeline : ℕ) (reply : Reply) (raised : CRaised) : Type 0 where
  pub woken : raised.woken ≡ length (woken_in reply)
  pub due : Result (Option ℕ) Errno
  pub first : AnswersDue timeline GREATEST after due
  pub pending : raised.pending ≡ due_point due

-- an accepted increment gives these, a refused one its error
abbrev pub IsRaisedBy : DeviceState → ℕ → Result Reply Errno → Result CRaised Errno → Type 0
IsRaisedBy after timeline (Ok reply) (Ok raised) = HasRaised after timeline reply raised
IsRaisedBy after timeline (Ok reply) (Err refusal) = ⊥
IsRaisedBy after timeline (Err refusal) given = given ≡ Err refusal

-- the service made the step of an increment
pub record IsRaise (old new : ServiceState) (timeline n now : ℕ) (given : Result CRaised Errno) : Type 0 where
  pub reply : Result Reply Errno
  pub step : IsStep old new (request.Inc timeline n now) reply
  pub raised : IsRaisedBy new.device timeline reply given

-- the open handle's service made it
pub record IsRaiseOf (old new : DeviceHandle) (timeline n now : ℕ) (given : Option (Result CRaised Errno)) : Type 0
  where
    pub answer : Result CRaised Errno
    pub is : given ≡ Some answer
    pub opened : is_open new ≡ true
    pub raise : IsRaise old.service new.service timeline n now answer

-- a closed handle is refused
abbrev pub IsRaiseIf : Bool → DeviceHandle → DeviceHandle → ℕ → ℕ → ℕ → Option (Result CRaised Errno) → Type 0
IsRaiseIf true old new timeline n now given = IsRaiseOf old new timeline n now given
IsRaiseIf false old new timeline n now given = (given ≡ None) × (new ≡ old)

abbrev pub IsRaiseAt : DeviceHandle → DeviceHandle → ℕ → ℕ → ℕ → Option (Result CRaised Errno) → Type 0
IsRaiseAt old new timeline n now given = IsRaiseIf (is_open old) old new timeline n now given

-- the call: it returns the number of the answer, and stores what an accepted increment gives
pub record IsRaiseCall (old new : DeviceHandle) (timeline n now : ℕ) (returned : ℤ) (before after : CRaised) : Type 0
  where
    pub given : Option (Result CRaised Errno)
    pub answered : IsRaiseAt old new timeline n now given
    pub number : returned ≡ number_of given
    pub stores : after ≡ found_or given before
