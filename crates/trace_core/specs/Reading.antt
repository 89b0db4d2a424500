-- A window of a trace, as it is read.
use Rattle.std.specs.Prelude.{◌≡◌, ℕ, ◌⊎◌, Bool, true, false, not, List, [], ◌∷◌, reverse, Option, None, Some}
use Rattle.trace_core.specs.Item.{Meaning, Event, Lost, BufferStarted}
use Rattle.trace_core.specs.Pieces.{HasPassed, HasReadAll, HasReadOn, IsNext, Unpassed, passed}
use Rattle.trace_core.specs.Record.{Printed}
use Rattle.trace_core.specs.declared.reading.Next.{Next}
use Rattle.trace_core.specs.declared.reading.Next.TheVariants as next
use Rattle.trace_core.specs.declared.reading.Reading.{Reading}
use Rattle.trace_core.specs.declared.tracker.TrackedEvent.{TrackedEvent}
use Rattle.trace_core.specs.declared.tracker.Tracker.{Tracker}
use Rattle.trace_core.specs.declared.window.Span.{Span}
use Rattle.trace_core.specs.declared.window.Stage.{Stage}
use Rattle.trace_core.specs.declared.window.Stage.TheVariants.{Before, Within}
use Rattle.trace_core.specs.Tracker.{Tracks}
use Rattle.trace_core.specs.Window.{is_over, stage_after}

-- the stage after an item; only events have a time
abbrev pub stage_with : Stage → Span → Meaning → Stage
stage_with stage span (Event r) = stage_after span r.time stage
stage_with stage span _ = stage

-- the stage after these events, the newest first
abbrev pub stage_at : Span → List (TrackedEvent × Printed) → Stage
stage_at span [] = Before
stage_at span (seen ∷ earlier) = stage_after span seen.1.time (stage_at span earlier)

abbrev pub is_end : Next → Bool
is_end next.End = true
is_end _ = false

-- an event is before the window or in it
abbrev pub event_at : Stage → TrackedEvent → Next
event_at Before seen = next.Before seen
event_at _ seen = next.Within seen

abbrev pub loss_of : Meaning → Next
loss_of (Lost cpu events) = next.Lost events
loss_of (BufferStarted cpu) = next.StartedLate
loss_of _ = next.Other

abbrev pub next_of : Stage → Option TrackedEvent → Meaning → Next
next_of stage (Some seen) item = event_at stage seen
next_of stage None item = loss_of item

-- These are the pieces that the tracker took in, and these its answers for their events. The newest come first.
pub record HasRead (span : Span) (r : Reading) (t : Tracker) (before now : Option (List ℕ))
    (items : List Meaning) (seen : List (TrackedEvent × Printed)) : Type 0 where
  pub span_is : r.span ≡ span
  pub passed : HasPassed before now r.pieces (reverse items)
  pub stage : r.stage ≡ stage_at span seen
  pub going : is_over r.stage ≡ false
  pub tracks : Tracks t items seen

-- the next piece is an event after the window
pub record IsPast (span : Span) (rest : Unpassed) (seen : List (TrackedEvent × Printed)) : Type 0 where
  pub record_is : Printed
  pub len : ℕ
  pub next : IsNext rest (Event record_is) len
  pub past : is_over (stage_after span record_is.time (stage_at span seen)) ≡ true

-- The pieces of a text up to the end of a window: all of them, or those before the first event after the window. The newest come
-- first.
pub record HasReadWindow (span : Span) (before now : Option (List ℕ)) (items : List Meaning) (seen : List (TrackedEvent × Printed))
    : Type 0 where
  pub rest : Unpassed
  pub passed : HasPassed before now rest (reverse items)
  pub over : HasReadAll before now (reverse items) ⊎ IsPast span rest seen

-- an event was taken in, and the reading is at that stage after the event
abbrev pub TookIn : Span → Reading → Tracker → Option (List ℕ) → Option (List ℕ)
    → List Meaning → List (TrackedEvent × Printed) → TrackedEvent → Stage → Type 0
TookIn span r t before now items earlier seen stage =
    (printed : Printed) × HasRead span r t before now (Event printed ∷ items) ((seen, printed) ∷ earlier)
    × (stage_at span ((seen, printed) ∷ earlier) ≡ stage)

-- a piece was taken in that is no event and no loss
abbrev pub PassedOver : Span → Reading → Tracker → Option (List ℕ) → Option (List ℕ)
    → List Meaning → List (TrackedEvent × Printed) → Type 0
PassedOver span r t before now items seen =
    (item : Meaning) × (loss_of item ≡ next.Other) × HasRead span r t before now (item ∷ items) seen

-- The answer of a step is true, and nothing else was taken in: an event or a loss is given when it is, and no piece twice.
abbrev pub GoesOn : Span → Reading → Tracker → Option (List ℕ) → Option (List ℕ)
    → List Meaning → List (TrackedEvent × Printed) → Next → Type 0
GoesOn span r t before now items earlier (next.Before seen) = TookIn span r t before now items earlier seen Before
GoesOn span r t before now items earlier (next.Within seen) = TookIn span r t before now items earlier seen Within
GoesOn span r t before now items earlier next.End =
    HasRead span r t before now items earlier × HasReadWindow span before now items earlier
GoesOn span r t before now items earlier next.Begin = HasRead span r t before now items earlier
GoesOn span r t before now items earlier (next.Lost events) =
    (cpu : ℕ) × HasRead span r t before now (Lost cpu events ∷ items) earlier
GoesOn span r t before now items earlier next.StartedLate =
    (cpu : ℕ) × HasRead span r t before now (BufferStarted cpu ∷ items) earlier
GoesOn span r t before now items earlier next.Other =
    PassedOver span r t before now items earlier ⊎ HasRead span r t before now items earlier

-- whether a window begins at that stage, unless it has begun
abbrev pub begins : Stage → Bool → Bool
begins Before begun = false
begins _ begun = not begun

-- the next piece was passed
pub record Passes (old new : Reading) : Type 0 where
  pub item : Meaning
  pub len : ℕ
  pub next : IsNext old.pieces item len
  pub is : new.pieces ≡ passed old.pieces len
  pub begun : new.has_begun ≡ old.has_begun

-- the text was read on, and nothing was passed
pub record ReadsOn (old new : Reading) (before after : Option (List ℕ)) : Type 0 where
  pub more : HasReadOn old.pieces new.pieces before after
  pub begun : new.has_begun ≡ old.has_begun

-- Each step gets ahead: the window begins, once; or the next piece is passed; or the text is read on. The window begins before
-- its first event, and before its end.
abbrev pub GetsAhead : Reading → Reading → Option (List ℕ) → Option (List ℕ) → Next → Type 0
GetsAhead old new before after next.Begin = (old.has_begun ≡ false) × (new.has_begun ≡ true)
GetsAhead old new before after (next.Within seen) = (old.has_begun ≡ true) × Passes old new
GetsAhead old new before after (next.Before seen) = Passes old new
GetsAhead old new before after (next.Lost events) = Passes old new
GetsAhead old new before after next.StartedLate = Passes old new
GetsAhead old new before after next.Other = Passes old new ⊎ ReadsOn old new before after
GetsAhead old new before after next.End = old.has_begun ≡ true

-- the text was read so far
pub record IsReading (span : Span) (r : Reading) (t : Tracker) (text rest : Option (List ℕ)) : Type 0 where
  pub items : List Meaning
  pub seen : List (TrackedEvent × Printed)
  pub read : HasRead span r t text rest items seen

-- the text was read up to the end of the window, and the tracker knows what it says
pub record HasTakenIn (span : Span) (t : Tracker) (text rest : Option (List ℕ)) : Type 0 where
  pub items : List Meaning
  pub seen : List (TrackedEvent × Printed)
  pub window : HasReadWindow span text rest items seen
  pub tracks : Tracks t items seen
