-- The result of a call from C: an answer, its number, and the stored values.
use Rattle.std.specs.Prelude.{◌≡◌, ◌⊎◌, ℕ, ℤ, pos, ◌==◌, Bool, true, false, if◌then◌else◌, List, [], length, drop, min, Result, Ok, Err}
use Rattle.point_core.specs.Refusal.{refusal_number}
use Rattle.point_core.specs.declared.refusal.Refusal.{Refusal}
use Rattle.point_core.specs.declared.refusal.Refusal.TheVariants.{NoEntry, Exists, Memory}
use Rattle.command_core.specs.declared.command.Command.{Command}
use Rattle.command_core.specs.declared.answer.Answer.{Answer}
use Rattle.command_core.specs.declared.answer.Answer.TheVariants as answer
use Rattle.desk_core.specs.theorem.Desk.{HasHistory}
use Rattle.c_desk.specs.declared.handle.DeskHandle.{DeskHandle}
use Rattle.c_desk.specs.Handle.{is_open}
use Rattle.c_handle.specs.Rows.{over}
use Rattle.c_desk.specs.Service.{IsStep}

-- 0 if the command was accepted, else the refusal's number
abbrev pub number_of_answer : Answer → ℤ
number_of_answer answer.Done = pos 0
number_of_answer (answer.Value n) = pos 0
number_of_answer (answer.Raised n fired) = pos 0
number_of_answer (answer.Info i) = pos 0
number_of_answer (answer.Show rows) = pos 0
number_of_answer (answer.Report report) = pos 0
number_of_answer (answer.Refused r) = pos (refusal_number r)

abbrev pub number_of : Refusal → ℤ
number_of refusal = pos (refusal_number refusal)

-- the number that the answer reports, or the old value
abbrev pub reported_or : Answer → ℕ → ℕ
reported_or answer.Done old = old
reported_or (answer.Value n) old = n
reported_or (answer.Raised n fired) old = n
reported_or (answer.Info i) old = old
reported_or (answer.Show rows) old = old
reported_or (answer.Report report) old = old
reported_or (answer.Refused r) old = old

-- 1 for an answer of yes, 0 for one of no, or the old value
abbrev pub yes_or : Answer → ℤ → ℤ
yes_or answer.Done old = old
yes_or (answer.Value n) old = if n == 1 then pos 1 else pos 0
yes_or (answer.Raised n fired) old = old
yes_or (answer.Info i) old = old
yes_or (answer.Show rows) old = old
yes_or (answer.Report report) old = old
yes_or (answer.Refused r) old = old

-- the call was refused, and nothing has changed
pub record IsRefusal (refusal : Refusal) (old new : DeskHandle) (given : Answer) : Type 0 where
  pub is : given ≡ answer.Refused refusal
  pub unchanged : new ≡ old

-- the open handle's service made one step
pub record IsStepOf (old new : DeskHandle) (command : Command) (given : Answer) : Type 0 where
  pub opened : is_open new ≡ true
  pub step : IsStep old.service new.service command given

-- an open handle answers what was asked for
abbrev pub IsAskedOpen : DeskHandle → DeskHandle → Result Command Refusal → Answer → Type 0
IsAskedOpen old new (Ok command) given = IsStepOf old new command given
IsAskedOpen old new (Err refusal) given = IsRefusal refusal old new given

-- a closed handle is refused as NoEntry, whatever is asked for
abbrev pub IsAskedIf : Bool → DeskHandle → DeskHandle → Result Command Refusal → Answer → Type 0
IsAskedIf true old new asked given = IsAskedOpen old new asked given
IsAskedIf false old new asked given = IsRefusal NoEntry old new given

abbrev pub IsAsked : DeskHandle → DeskHandle → Result Command Refusal → Answer → Type 0
IsAsked old new asked given = IsAskedIf (is_open old) old new asked given

-- the answer of the call, the number that it returns, and the values that it stores
pub record IsCall (old new : DeskHandle) (asked : Result Command Refusal) (returned : ℤ) (Stores : Answer → Type 0) : Type 0 where
  pub given : Answer
  pub answered : IsAsked old new asked given
  pub number : returned ≡ number_of_answer given
  pub stores : Stores given

-- an open handle with an empty desk
pub record IsNew (h : DeskHandle) : Type 0 where
  pub opened : is_open h ≡ true
  pub desk : HasHistory h.service.desk []
  pub fired : h.service.fired ≡ []

-- an open handle is refused as Exists; a closed one is then open, or stays closed for lack of memory
abbrev pub IsOpeningIf : Bool → DeskHandle → DeskHandle → ℤ → Type 0
IsOpeningIf true old new number = (number ≡ number_of Exists) × (new ≡ old)
IsOpeningIf false old new number = ((number ≡ pos 0) × IsNew new) ⊎ ((number ≡ number_of Memory) × (new ≡ old))

abbrev pub IsOpening : DeskHandle → DeskHandle → ℤ → Type 0
IsOpening old new number = IsOpeningIf (is_open old) old new number

-- the first queued cookies were written over the start of the room, and the others are still queued
pub record IsTakingOf (old new : DeskHandle) (room cookies : List ℕ) (returned : ℕ) : Type 0 where
  pub opened : is_open new ≡ true
  pub count : returned ≡ min (length room) (length old.service.fired)
  pub taken : cookies ≡ over old.service.fired room
  pub left : new.service.fired ≡ drop returned old.service.fired
  pub desk : new.service.desk ≡ old.service.desk

-- a closed handle has no cookies
pub record IsTakingNone (old new : DeskHandle) (room cookies : List ℕ) (returned : ℕ) : Type 0 where
  pub none : returned ≡ 0
  pub untouched : cookies ≡ room
  pub unchanged : new ≡ old

abbrev pub IsTakingIf : Bool → DeskHandle → DeskHandle → List ℕ → List ℕ → ℕ → Type 0
IsTakingIf true old new room cookies returned = IsTakingOf old new room cookies returned
IsTakingIf false old new room cookies returned = IsTakingNone old new room cookies returned

abbrev pub IsTaking : DeskHandle → DeskHandle → List ℕ → List ℕ → ℕ → Type 0
IsTaking old new room cookies returned = IsTakingIf (is_open old) old new room cookies returned
