-- The result of a call from C: an answer, its number, and the stored values.
use Rattle.std.specs.Prelude.{◌≡◌, ◌⊎◌, ℕ, ℤ, pos, Bool, true, false, List, [], length, drop, min, Option, None, Some, Result, Ok, Err}
use Rattle.device_core.specs.declared.errno.Errno.{Errno}
use Rattle.device_core.specs.declared.errno.Errno.TheVariants.{NoEntry, NoMemory, Invalid, WrongKind, NoNumber, Overflow}
use Rattle.device_core.specs.declared.request.Request.{Request}
use Rattle.device_core.specs.declared.request.Reply.{Reply}
use Rattle.device_core.specs.theorem.State.{nothing}
use Rattle.c_device.specs.declared.handle.DeviceHandle.{DeviceHandle}
use Rattle.c_device.specs.Handle.{is_open}
use Rattle.c_handle.specs.Rows.{over}
use Rattle.c_device.specs.Service.{IsStep}

-- the result of a call that is a request: none from a closed handle
abbrev pub CallReply : Type 0
CallReply = Option (Result Reply Errno)

-- the errno that Linux gives
abbrev pub errno_of : Errno → ℤ
errno_of NoEntry = pos 2
errno_of NoMemory = pos 12
errno_of Invalid = pos 22
errno_of WrongKind = pos 25
errno_of NoNumber = pos 28
errno_of Overflow = pos 75

-- 0 if the request was accepted, else the errno of the refusal: EBADF for a closed handle
abbrev pub number_of : {A : Type 0} → Option (Result A Errno) → ℤ
number_of None = pos 9
number_of (Some (Ok answer)) = pos 0
number_of (Some (Err refusal)) = errno_of refusal

-- the handle is closed, and stays as it is
pub record IsClosed (old new : DeviceHandle) (given : CallReply) : Type 0 where
  pub is : given ≡ None
  pub unchanged : new ≡ old

-- the arguments are refused, and nothing has changed
pub record IsRefusal (refusal : Errno) (old new : DeviceHandle) (given : CallReply) : Type 0 where
  pub is : given ≡ Some (Err refusal)
  pub unchanged : new ≡ old

-- the open handle's service made one step
pub record IsStepOf (old new : DeviceHandle) (asked : Request) (given : CallReply) : Type 0 where
  pub answer : Result Reply Errno
  pub is : given ≡ Some answer
  pub opened : is_open new ≡ true
  pub step : IsStep old.service new.service asked answer

-- an open handle answers what was asked for
abbrev pub IsAskedOpen : DeviceHandle → DeviceHandle → Result Request Errno → CallReply → Type 0
IsAskedOpen old new (Ok asked) given = IsStepOf old new asked given
IsAskedOpen old new (Err refusal) given = IsRefusal refusal old new given

-- a closed handle is refused, whatever is asked for
abbrev pub IsAskedIf : Bool → DeviceHandle → DeviceHandle → Result Request Errno → CallReply → Type 0
IsAskedIf true old new asked given = IsAskedOpen old new asked given
IsAskedIf false old new asked given = IsClosed old new given

abbrev pub IsAsked : DeviceHandle → DeviceHandle → Result Request Errno → CallReply → Type 0
IsAsked old new asked given = IsAskedIf (is_open old) old new asked given

-- the answer of the call, the number that it returns, and the values that it stores
pub record IsCall (old new : DeviceHandle) (asked : Result Request Errno) (returned : ℤ) (Stores : CallReply → Type 0)
    : Type 0 where
  pub given : CallReply
  pub answered : IsAsked old new asked given
  pub number : returned ≡ number_of given
  pub stores : Stores given

-- an open handle with an empty device
pub record IsNew (h : DeviceHandle) : Type 0 where
  pub opened : is_open h ≡ true
  pub device : h.service.device ≡ nothing
  pub woken : h.service.woken ≡ []

-- an open handle is refused with EEXIST; a closed one is then open, or stays closed for lack of memory
abbrev pub IsOpeningIf : Bool → DeviceHandle → DeviceHandle → ℤ → Type 0
IsOpeningIf true old new returned = (returned ≡ pos 17) × (new ≡ old)
IsOpeningIf false old new returned =
    ((returned ≡ pos 0) × IsNew new) ⊎ ((returned ≡ errno_of NoMemory) × (new ≡ old))

abbrev pub IsOpening : DeviceHandle → DeviceHandle → ℤ → Type 0
IsOpening old new returned = IsOpeningIf (is_open old) old new returned

-- the first queued files were written over the start of the room, and the others are still queued
pub record IsTakingOf (old new : DeviceHandle) (room files : List ℕ) (returned : ℕ) : Type 0 where
  pub opened : is_open new ≡ true
  pub count : returned ≡ min (length room) (length old.service.woken)
  pub taken : files ≡ over old.service.woken room
  pub left : new.service.woken ≡ drop returned old.service.woken
  pub device : new.service.device ≡ old.service.device

-- a closed handle has no files
pub record IsTakingNone (old new : DeviceHandle) (room files : List ℕ) (returned : ℕ) : Type 0 where
  pub none : returned ≡ 0
  pub untouched : files ≡ room
  pub unchanged : new ≡ old

abbrev pub IsTakingIf : Bool → DeviceHandle → DeviceHandle → List ℕ → List ℕ → ℕ → Type 0
IsTakingIf true old new room files returned = IsTakingOf old new room files returned
IsTakingIf false old new room files returned = IsTakingNone old new room files returned

abbrev pub IsTaking : DeviceHandle → DeviceHandle → List ℕ → List ℕ → ℕ → Type 0
IsTaking old new room files returned = IsTakingIf (is_open old) old new room files returned
