-- A device with its queue of woken files, and one request on both.
use Rattle.std.specs.Prelude.{◌≡◌, ℕ, ◌<◌, Bool, false, List, ◌++◌, filter, is_some, All, Result, OnErr}
use Rattle.device_core.specs.declared.errno.Errno.{Errno}
use Rattle.device_core.specs.declared.request.Request.{Request}
use Rattle.device_core.specs.declared.request.Request.TheVariants as request
use Rattle.device_core.specs.declared.request.Reply.{Reply}
use Rattle.device_core.specs.theorem.State.{DeviceState, file_at, objects_of}
use Rattle.device_core.specs.theorem.Request.{IsAnswer, takes_memory}
use Rattle.device_core.specs.theorem.History.{HasHistory, history_after}
use Rattle.device_core.specs.theorem.Times.{in_accepted, woken_in}

-- the files that were woken, in order, without those that were taken or closed since
pub record ServiceState : Type 0 where
  pub device : DeviceState
  pub woken : List ℕ

-- the numbers of open files in the list
abbrev pub open_among : DeviceState → List ℕ → List ℕ
open_among d numbers = filter (λ n. is_some (file_at d n)) numbers

-- the files that the answer wakes
abbrev pub woken_of : Result Reply Errno → List ℕ
woken_of given = in_accepted woken_in given

-- the numbers were given before the next one
abbrev pub AreGiven : ℕ → List ℕ → Type 0
AreGiven next numbers = All (λ n. n < next) numbers

-- the request was answered as a device answers it, and the files that it woke are queued after the earlier ones
pub record IsStep (old new : ServiceState) (asked : Request) (given : Result Reply Errno) : Type 0 where
  pub answered : IsAnswer (objects_of old.device) asked given
  pub stands : (history : List Request) →
      HasHistory old.device history → HasHistory new.device (history_after history asked given)
  pub unchanged : OnErr given (new ≡ old)
  pub kept : new.woken ≡ open_among new.device (old.woken ++ woken_of given)

-- the invariant of a service: its device has a history, and the queue has only given numbers
pub record IsKept (d : DeviceState) (queue : List ℕ) : Type 0 where
  pub history : List Request
  pub stands : HasHistory d history
  pub given : AreGiven d.next queue

-- the request wakes files, so that room has to be made for them
abbrev pub may_wake : DeviceState → Request → Bool
may_wake d (request.Inc timeline n now) = takes_memory (objects_of d) (request.Inc timeline n now)
may_wake d (request.Close number now) = takes_memory (objects_of d) (request.Close number now)
may_wake d (request.Open name) = false
may_wake d (request.Fence timeline point now) = false
may_wake d (request.Merge a b name) = false
may_wake d (request.Status file) = false
may_wake d (request.IsSignalled file) = false
may_wake d (request.Info file) = false
may_wake d (request.Buffer now) = false
may_wake d (request.Export buffer flags) = false
may_wake d (request.Import buffer file flags) = false
may_wake d (request.Test buffer usage) = false
