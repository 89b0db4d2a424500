-- When a trace is written as trace events.
use Rattle.std.specs.Prelude.{◌≡◌, ℕ, List, [], map, Option}
use Rattle.trace_core.specs.Item.{Meaning}
use Rattle.trace_core.specs.Record.{Printed}
use Rattle.trace_core.specs.declared.tracker.TrackedEvent.{TrackedEvent}
use Rattle.trace_core.specs.declared.window.Span.{Span}
use Rattle.trace_core.specs.Reading.{HasReadWindow}
use Rattle.trace_core.specs.Tracker.{records_in}
use Rattle.trace_report.specs.declared.events.Written.{Written}
use Rattle.trace_report.specs.declared.events.Written.TheVariants.{Document, NoEvents}

-- there are no events exactly if none comes up to the end of the window
abbrev pub IsWritten : List (TrackedEvent × Printed) → Written → Type 0
IsWritten seen Document = seen ≡ [] → ⊥
IsWritten seen NoEvents = seen ≡ []

-- The trace was read up to the end of the window. The newest items and events come first.
pub record WritesTrace (span : Span) (text rest : Option (List ℕ)) (written : Written) : Type 0 where
  pub items : List Meaning
  pub seen : List (TrackedEvent × Printed)
  pub window : HasReadWindow span text rest items seen
  pub records : records_in items ≡ map (λ s. s.1) seen
  pub is : IsWritten seen written
