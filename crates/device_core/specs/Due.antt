-- The least point of a timeline at which a file waits.
use Rattle.std.specs.Prelude.{◌≡◌, ℕ, ◌+◌, ◌≤◌, min, true, List, Option, None, option_map, IsSomeAnd, IfSome, IfNone, Result, Ok, Err}
use Rattle.point_core.specs.Reach.{GREATEST}
use Rattle.device_core.specs.declared.fence.Signal.{Signal}
use Rattle.device_core.specs.declared.fence.Timeline.{Timeline}
use Rattle.device_core.specs.declared.errno.Errno.{Errno}
use Rattle.device_core.specs.declared.waiting_files.Waiter.{Waiter}
use Rattle.device_core.specs.theorem.State.{FileState, Objects, file_signalled, file_waits, holds, is_due_at, missing_timeline}

abbrev pub waiting_at : ℕ → ℕ → ℕ → Waiter
waiting_at timeline value file = record { timeline = timeline; value = value; file = file }

-- the first is the least point of the timeline in the index, up to the bound
pub record IsFirstHeld (index : List Waiter) (timeline bound : ℕ) (first : Option ℕ) : Type 0 where
  pub due : IfSome first (λ p. (p ≤ bound) × ((file : ℕ) × (holds index (waiting_at timeline p file) ≡ true)))
  pub least : (k : Waiter) → is_due_at timeline bound k ≡ true → holds index k ≡ true → IsSomeAnd first (λ p. p ≤ k.value)

-- some file has a pending fence at that point
abbrev pub WaitsAt : (ℕ → Option FileState) → ℕ → ℕ → Type 0
WaitsAt files timeline value = (n : ℕ) × (file_waits (waiting_at timeline value n) (files n) ≡ true)

-- the first is the least point of the timeline, up to the bound, at which a file waits
pub record IsFirstDue (files : ℕ → Option FileState) (timeline bound : ℕ) (first : Option ℕ) : Type 0 where
  pub due : IfSome first (λ p. (p ≤ bound) × WaitsAt files timeline p)
  pub least : (p : ℕ) → p ≤ bound → WaitsAt files timeline p → IsSomeAnd first (λ q. q ≤ p)
  -- if there is none, signals up to the bound change no file, whatever their time
  pub untimed : IfNone first ((signal : Signal) (n : ℕ) →
      files n ≡ option_map (file_signalled timeline bound signal) (files n))

-- the value of a timeline that rises by n, which doesn't pass the greatest
abbrev pub risen_value : Timeline → ℕ → ℕ
risen_value t n = min (t.value + n) GREATEST

-- the least point that a rise by n would signal, or why there is no timeline of that number
abbrev pub IsDueAnswer : Objects → ℕ → ℕ → Result (Option ℕ) Errno → Type 0
IsDueAnswer d timeline n (Ok first) =
    IsSomeAnd (d.timelines timeline) (λ t. IsFirstDue d.files timeline (risen_value t n) first)
IsDueAnswer d timeline n (Err refusal) =
    (d.timelines timeline ≡ None) × (refusal ≡ missing_timeline d timeline)
