-- Queries: calls that change nothing and are no requests.
use Rattle.std.specs.Prelude.{◌≡◌, ℕ, ℤ, pos, Bool, true, false, if◌then◌else◌, slice_get, ok_or, MatchOption, Option, None, Some, is_none, Result, Ok, Err}
use Rattle.device_core.specs.declared.fence.Fence.{Fence}
use Rattle.device_core.specs.declared.errno.Errno.{Errno}
use Rattle.device_core.specs.declared.errno.Errno.TheVariants.{Invalid}
use Rattle.device_core.specs.Due.{IsDueAnswer}
use Rattle.device_core.specs.theorem.State.{DeviceState, file_at, missing_file, missing_timeline, objects_of, timeline_at}
use Rattle.c_device.specs.declared.handle.DeviceHandle.{DeviceHandle}
use Rattle.c_device.specs.declared.rows.CPoint.{CPoint}
use Rattle.c_device.specs.Call.{number_of}
use Rattle.c_device.specs.Handle.{is_open}

module _ {A : Type 0} where
  -- an open handle is asked, a closed one isn't
  abbrev pub IsFoundIf : Bool → (Result A Errno → Type 0) → Option (Result A Errno) → Type 0
  IsFoundIf true Answers None = ⊥
  IsFoundIf true Answers (Some given) = Answers given
  IsFoundIf false Answers given = given ≡ None

  -- what was found, and that the device and the queue are unchanged
  pub record IsQuery (old new : DeviceHandle) (Answers : DeviceState → Result A Errno → Type 0)
      (found : Option (Result A Errno)) : Type 0 where
    pub is : IsFoundIf (is_open old) (Answers old.service.device) found
    pub opened : is_open new ≡ is_open old
    pub service : is_open old ≡ true → new.service ≡ old.service

  -- a query's call: it returns the number of what was found, and stores it
  pub record IsQueryCall (old new : DeviceHandle) (Answers : DeviceState → Result A Errno → Type 0) (returned : ℤ)
      (Stores : Option (Result A Errno) → Type 0) : Type 0 where
    pub found : Option (Result A Errno)
    pub query : IsQuery old new Answers found
    pub number : returned ≡ number_of found
    pub stores : Stores found

-- the least point that a rise of a timeline by n would signal
abbrev pub AnswersDue : ℕ → ℕ → DeviceState → Result (Option ℕ) Errno → Type 0
AnswersDue timeline n d given = IsDueAnswer (objects_of d) timeline n given

-- the value of a timeline
abbrev pub AnswersValue : ℕ → DeviceState → Result ℕ Errno → Type 0
AnswersValue timeline d given = MatchOption (timeline_at d timeline)
    (given ≡ Err (missing_timeline (objects_of d) timeline))
    (λ t. given ≡ Ok t.value)

-- the fence of a file at an index
abbrev pub AnswersFence : ℕ → ℕ → DeviceState → Result Fence Errno → Type 0
AnswersFence file index d given = MatchOption (file_at d file)
    (given ≡ Err (missing_file (objects_of d) file))
    (λ f. given ≡ ok_or (slice_get f.fences index) Invalid)

-- what was found, or the old value
abbrev pub found_or : {A : Type 0} → Option (Result A Errno) → A → A
found_or None old = old
found_or (Some (Ok found)) old = found
found_or (Some (Err refusal)) old = old

-- the point, or 0 if there is none
abbrev pub point_or_none : Option ℕ → ℕ
point_or_none None = 0
point_or_none (Some point) = point

-- the point, 0 if there is none, or the old one
abbrev pub due_or : Option (Result (Option ℕ) Errno) → ℕ → ℕ
due_or None old = old
due_or (Some (Ok first)) old = point_or_none first
due_or (Some (Err refusal)) old = old

abbrev pub c_point : Fence → CPoint
c_point f = record { timeline = f.timeline; value = f.value; is_pending = if is_none f.signal then pos 1 else pos 0 }

-- the fence's point, or the old one
abbrev pub c_point_or : Option (Result Fence Errno) → CPoint → CPoint
c_point_or None old = old
c_point_or (Some (Ok f)) old = c_point f
c_point_or (Some (Err refusal)) old = old
