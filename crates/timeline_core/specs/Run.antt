-- Calls on timelines, one after another, and the increments among them.
use Rattle.std.specs.Prelude.{◌≡◌, ℕ, ◌+◌, ◌-◌, ◌^◌, ◌<◌, ◌≤◌, Bool, true, false, if◌then◌else◌, List, [], ◌∷◌, ◌++◌, length, Option, None, Some, ⊤}
use Rattle.point_core.specs.declared.context.TheConstants.{CONTEXTS}
use Rattle.point_core.specs.Clocks.{clock_at}
use Rattle.timeline_core.specs.Sums.{Increment, increment}
use Rattle.timeline_core.specs.Timeline.{Timeline, new_timeline, has_timeline, name_at, clocks_of, value_of, is_closed, raised, shut}

-- a call that may change timelines
pub data Call : Type 0 where
  Create : List ℕ → Call
  Inc : List ℕ → ℕ → Call
  Shut : List ℕ → Call
  RaiseTo : ℕ → ℕ → Call
  Close : ℕ → Call

-- a timeline of that context was made, and is open
abbrev pub IsOpen : List Timeline → ℕ → Type 0
IsOpen ts ctx = (1 ≤ ctx) × (ctx ≤ length ts) × ((clock_at (clocks_of ts) ctx).closed ≡ false)

-- nothing refuses the call
abbrev pub IsAllowed : Call → List Timeline → Type 0
IsAllowed (Create name) ts = (has_timeline ts name ≡ false) × (length ts < CONTEXTS)
IsAllowed (Inc name n) ts = (has_timeline ts name ≡ true) × (is_closed ts name ≡ false) × (value_of ts name + n < 2 ^ 64)
IsAllowed (Shut name) ts = (has_timeline ts name ≡ true) × (is_closed ts name ≡ false)
IsAllowed (RaiseTo ctx value) ts = IsOpen ts ctx
IsAllowed (Close ctx) ts = IsOpen ts ctx

-- by how much the value of a context is below another
abbrev pub missing_to : List Timeline → ℕ → ℕ → ℕ
missing_to ts ctx value = value - (clock_at (clocks_of ts) ctx).value

-- an increment of the timeline of that name, if there is one
abbrev pub increments_if : Option (List ℕ) → ℕ → List Increment
increments_if None n = []
increments_if (Some name) n = increment name n ∷ []

-- the timeline of that name, if there is one, rises by n
abbrev pub raised_if : List Timeline → Option (List ℕ) → ℕ → List Timeline
raised_if ts None n = ts
raised_if ts (Some name) n = raised ts name n

-- the timeline of that name, if there is one, is closed
abbrev pub shut_if : List Timeline → Option (List ℕ) → List Timeline
shut_if ts None = ts
shut_if ts (Some name) = shut ts name

-- the timelines after an accepted call
abbrev pub after : Call → List Timeline → List Timeline
after (Create name) ts = ts ++ new_timeline name ∷ []
after (Inc name n) ts = raised ts name n
after (Shut name) ts = shut ts name
after (RaiseTo ctx value) ts = raised_if ts (name_at ts ctx) (missing_to ts ctx value)
after (Close ctx) ts = shut_if ts (name_at ts ctx)

-- the call was accepted or refused on the old timelines, and left the new ones
abbrev pub Leaves : Call → Bool → List Timeline → List Timeline → Type 0
Leaves call true old new = IsAllowed call old × (new ≡ after call old)
Leaves call false old new = new ≡ old

-- a call, whether it was accepted, and the timelines after it
pub record Step : Type 0 where
  pub call : Call
  pub accepted : Bool
  pub left : List Timeline

-- each call was made on the timelines that the call before it left
abbrev pub IsRun : List Timeline → List Step → Type 0
IsRun old [] = ⊤
IsRun old (step ∷ steps) = Leaves step.call step.accepted old step.left × IsRun step.left steps

abbrev pub last_timelines : List Timeline → List Step → List Timeline
last_timelines old [] = old
last_timelines old (step ∷ steps) = last_timelines step.left steps

-- the increments that an accepted call makes on these timelines
abbrev pub increments_of : Call → List Timeline → List Increment
increments_of (Create name) ts = []
increments_of (Inc name n) ts = increment name n ∷ []
increments_of (Shut name) ts = []
increments_of (RaiseTo ctx value) ts = increments_if (name_at ts ctx) (missing_to ts ctx value)
increments_of (Close ctx) ts = []

abbrev pub accepted_increments : List Timeline → Step → List Increment
accepted_increments ts step = if step.accepted then increments_of step.call ts else []

-- the increments of all calls that were accepted
abbrev pub all_increments : List Timeline → List Step → List Increment
all_increments old [] = []
all_increments old (step ∷ steps) = accepted_increments old step ++ all_increments step.left steps
