-- When a trace is written as trace events.
use Rattle.std.proofs.Common.{◌≡◌, ℕ, List, Option, subst}
use Rattle.trace_core.specs.History.{events_in}
use Rattle.trace_core.specs.Reading.{HasTakenIn}
use Rattle.trace_core.specs.Tracker.{AreSeen}
use Rattle.trace_core.specs.declared.tracker.Tracker.{Tracker}
use Rattle.trace_core.specs.declared.window.Span.{Span}
use Rattle.trace_core.proofs.Tracking.{none-given, none-seen}
use Rattle.trace_report.specs.declared.events.Written.{Written}
use Rattle.trace_report.specs.declared.events.Written.TheVariants.{Document, NoEvents}
use Rattle.trace_report.specs.Events.{IsWritten, WritesTrace}

module _ (span : Span) (t : Tracker) (text rest : Option (List ℕ)) (h : HasTakenIn span t text rest) where
  writes : (w : Written) → IsWritten h.seen w → WritesTrace span text rest w
  writes w is = record { items = h.items; seen = h.seen; window = h.window; records = h.tracks.fences.saw.records; is = is }

  pub no-events : events_in h.tracks.fences.steps ≡ 0 → WritesTrace span text rest NoEvents
  no-events zero = writes NoEvents (none-given h.tracks.fences.steps h.seen h.tracks.fences.saw.seen_are zero)

  pub some-events : (events_in h.tracks.fences.steps ≡ 0 → ⊥) → WritesTrace span text rest Document
  some-events events =
      writes Document (λ none. events (none-seen h.tracks.fences.steps (subst (AreSeen h.tracks.fences.steps) none h.tracks.fences.saw.seen_are)))
