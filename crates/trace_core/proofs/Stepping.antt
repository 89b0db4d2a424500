-- A window of a trace, step by step.
use Rattle.std.proofs.Common.{◌≡◌, ℕ, inl, inr, Bool, true, false, not, List, [], ◌∷◌, ◌++◌, reverse, Option, None, Some, refl, sym, ap, ◌∙◌}
use Rattle.std.specs.Prelude.{is_some}
use Rattle.std.proofs.lemmas.Bool.{false≢true, true≢false}
use Rattle.std.proofs.lemmas.List.{reverse-append}
use Rattle.trace_core.specs.Item.{Meaning, Event, Lost, BufferStarted}
use Rattle.trace_core.specs.Pieces.{IsNext}
use Rattle.trace_core.specs.Record.{Printed}
use Rattle.trace_core.specs.declared.reading.Next.{Next}
use Rattle.trace_core.specs.declared.reading.Next.TheVariants as next
use Rattle.trace_core.specs.declared.reading.Reading.{Reading}
use Rattle.trace_core.specs.declared.tracker.TrackedEvent.{TrackedEvent}
use Rattle.trace_core.specs.declared.tracker.Tracker.{Tracker}
use Rattle.trace_core.specs.declared.window.Span.{Span}
use Rattle.trace_core.specs.declared.window.Stage.{Stage}
use Rattle.trace_core.specs.declared.window.Stage.TheVariants.{Before, Within, After}
use Rattle.trace_core.specs.Tracker.{given, is_event}
use Rattle.trace_core.specs.Reading.{GetsAhead, GoesOn, HasRead, HasTakenIn, IsPast, IsReading, Passes, begins, is_end, next_of, stage_at, stage_with}
use Rattle.trace_core.specs.Window.{is_over, stage_after}

-- the newest of some items is the last of them in order
pub reversed : (item : Meaning) (items : List Meaning) → reverse items ++ item ∷ [] ≡ reverse (item ∷ items)
reversed item items = sym (reverse-append (item ∷ []) items)

-- after a piece that is no event, the events are those that there were
pub stage-given : (span : Span) (stage : Stage) (o : Option TrackedEvent) (item : Meaning) (earlier : List (TrackedEvent × Printed)) → is_some o ≡ is_event item → stage ≡ stage_at span earlier → stage_with stage span item ≡ stage_at span (given o item ++ earlier)
stage-given span stage (Some seen) (Event r) earlier some is = ap (stage_after span r.time) is
stage-given span stage None (Event r) earlier some is = absurd (false≢true some)
stage-given span stage None item earlier some is = is
stage-given span stage (Some seen) item earlier some is = absurd (false≢true (sym some))

-- what `next` gives for a piece that was taken in
module _ (span : Span) (r : Reading) (t : Tracker) (before now : Option (List ℕ)) (items : List Meaning) (earlier : List (TrackedEvent × Printed)) where
  pub told : (stage : Stage) (o : Option TrackedEvent) (item : Meaning) → is_some o ≡ is_event item → is_over stage ≡ false → stage ≡ stage_at span (given o item ++ earlier) → HasRead span r t before now (item ∷ items) (given o item ++ earlier) → GoesOn span r t before now items earlier (next_of stage o item)
  told Before (Some seen) (Event printed) some goes is h = (printed, h, sym is)
  told Within (Some seen) (Event printed) some goes is h = (printed, h, sym is)
  told After (Some seen) item some goes is h = absurd (false≢true (sym goes))
  told stage None (Event printed) some goes is h = absurd (false≢true some)
  told stage None (Lost cpu events) some goes is h = (cpu, h)
  told stage None (BufferStarted cpu) some goes is h = (cpu, h)
  told stage None item some goes is h = inl (item, refl, h)
  told stage (Some seen) item some goes is h = absurd (false≢true (sym some))

  -- the window is over only where the next piece is an event
  pub past : (item : Meaning) (len : ℕ) → HasRead span r t before now items earlier → IsNext r.pieces item len → is_over (stage_with r.stage r.span item) ≡ true → IsPast span r.pieces earlier
  past (Event printed) len h next over = record {
    record_is = printed;
    len = len;
    next = next;
    past =
        sym (ap (λ s. is_over (stage_after s printed.time (stage_at span earlier))) h.span_is)
        ∙ sym (ap (λ s. is_over (stage_after r.span printed.time s)) h.stage)
        ∙ over;
  }
  past item len h next over = absurd (false≢true (sym h.going ∙ over))

-- a piece that was taken in was passed; the window begins before its first event
begun : (b : Bool) → not b ≡ false → b ≡ true
begun true none = refl
begun false none = absurd (true≢false none)

pub begins-once : (stage : Stage) (b : Bool) → begins stage b ≡ true → b ≡ false
begins-once stage false is = refl
begins-once Before true is = absurd (false≢true is)
begins-once stage true is = absurd (false≢true is)

pub begins-first : (stage : Stage) (b : Bool) → is_over stage ≡ true → begins stage b ≡ false → b ≡ true
begins-first Before b over none = absurd (false≢true over)
begins-first Within b over none = absurd (false≢true over)
begins-first After b over none = begun b none

module _ (old new : Reading) (before after : Option (List ℕ)) (passes : Passes old new) where
  pub got-ahead : (stage : Stage) (o : Option TrackedEvent) (item : Meaning) → begins stage old.has_begun ≡ false → GetsAhead old new before after (next_of stage o item)
  got-ahead Before (Some seen) item none = passes
  got-ahead Within (Some seen) item none = (begun old.has_begun none, passes)
  got-ahead After (Some seen) item none = (begun old.has_begun none, passes)
  got-ahead stage None (Lost cpu events) none = passes
  got-ahead stage None (BufferStarted cpu) none = passes
  got-ahead stage None item none = inl passes

-- nothing was read
pub reading-none : (span : Span) (r : Reading) (t : Tracker) (text : Option (List ℕ)) → HasRead span r t text text [] [] → IsReading span r t text text
reading-none span r t text read = record { items = []; seen = []; read = read }

module _ (span : Span) (r : Reading) (t : Tracker) (text rest : Option (List ℕ)) (items : List Meaning) (seen : List (TrackedEvent × Printed)) where
  -- a step of the reading
  pub reading-more : (n : Next) → GoesOn span r t text rest items seen n → IsReading span r t text rest
  reading-more (next.Within e) goes = record { items = Event goes.0 ∷ items; seen = (e, goes.0) ∷ seen; read = goes.1 }
  reading-more (next.Before e) goes = record { items = Event goes.0 ∷ items; seen = (e, goes.0) ∷ seen; read = goes.1 }
  reading-more (next.Lost events) goes = record { items = Lost goes.0 events ∷ items; seen = seen; read = goes.1 }
  reading-more next.StartedLate goes = record { items = BufferStarted goes.0 ∷ items; seen = seen; read = goes.1 }
  reading-more next.Other goes = elim goes [
    | inl passed ↦ record { items = passed.0 ∷ items; seen = seen; read = passed.2 }
    | inr read ↦ record { items = items; seen = seen; read = read }
  ]
  reading-more next.Begin goes = record { items = items; seen = seen; read = goes }
  reading-more next.End goes = record { items = items; seen = seen; read = goes.0 }

  -- the last step
  pub taken-in : (n : Next) → is_end n ≡ true → GoesOn span r t text rest items seen n → HasTakenIn span t text rest
  taken-in next.End end goes = record { items = items; seen = seen; window = goes.1; tracks = goes.0.tracks }
  taken-in (next.Within e) end goes = absurd (false≢true end)
  taken-in (next.Before e) end goes = absurd (false≢true end)
  taken-in (next.Lost events) end goes = absurd (false≢true end)
  taken-in next.StartedLate end goes = absurd (false≢true end)
  taken-in next.Other end goes = absurd (false≢true end)
  taken-in next.Begin end goes = absurd (false≢true end)
