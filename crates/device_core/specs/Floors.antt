-- The open timelines, each with a floor: no file waits for it at a lower point.
use Rattle.std.specs.Prelude.{◌≡◌, ℕ, ◌+◌, ◌<◌, ◌≤◌, ◌^◌, min, nat_eq, true, false, if◌then◌else◌, List, [], ◌∷◌, map, Some, IsSome, IfSome}
use Rattle.device_core.specs.declared.fence.Fence.{Fence}
use Rattle.device_core.specs.declared.fence.Timeline.{Timeline}
use Rattle.device_core.specs.declared.timelines.OpenTimeline.{OpenTimeline}
use Rattle.device_core.specs.declared.waiting_files.Waiter.{Waiter}
use Rattle.device_core.specs.theorem.Fences.{is_pending}
use Rattle.device_core.specs.theorem.State.{AreInOrder, at, holds, is_due_at, raised}

-- the open timelines by number, and the points at which files wait, in order
pub record TimelinesState : Type 0 where
  pub entries : List (ℕ × Timeline)
  pub index : List Waiter

abbrev pub timelines_in : List (ℕ × OpenTimeline) → List (ℕ × Timeline)
timelines_in es = map (λ e. (e.0, e.1.timeline)) es

abbrev pub timelines_state : List (ℕ × OpenTimeline) → List Waiter → TimelinesState
timelines_state es index = record { entries = timelines_in es; index = index }

-- no file waits for an open timeline below its floor, and the index is in order
pub record HasFloors (es : List (ℕ × OpenTimeline)) (index : List Waiter) : Type 0 where
  pub floors : (k : Waiter) → holds index k ≡ true → IfSome (at es k.timeline) (λ o. o.floor ≤ k.value)
  pub ordered : AreInOrder index

-- an open timeline at this value, with this floor
abbrev pub settled : ℕ → ℕ → OpenTimeline → OpenTimeline
settled value floor o = record { timeline = record o.timeline { value = value }; floor = floor }

-- its floor is at or below the fence, if that is pending and its own
abbrev pub lowered_by : Fence → OpenTimeline → OpenTimeline
lowered_by f o = if is_pending f then record o { floor = min o.floor f.value } else o

-- its floor is at or below each pending fence with that number
abbrev pub lowered : ℕ → List Fence → OpenTimeline → OpenTimeline
lowered number [] o = o
lowered number (f ∷ fs) o = lowered number fs (if nat_eq f.timeline number then lowered_by f o else o)

-- an open timeline has risen by n, and no file waited for a point that it has reached
pub record HasRisenQuietly (old new : TimelinesState) (number n : ℕ) : Type 0 where
  pub known : IsSome (at old.entries number)
  pub fits : IfSome (at old.entries number) (λ t. t.value + n < 2 ^ 64)
  pub rises : IfSome (at old.entries number) (λ t. (q : ℕ) →
      at new.entries q ≡ (if nat_eq number q then Some (raised t n) else at old.entries q))
  pub same : new.index ≡ old.index
  pub none : IfSome (at old.entries number) (λ t. (k : Waiter) →
      is_due_at number (t.value + n) k ≡ true → holds old.index k ≡ false)
