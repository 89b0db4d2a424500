-- What a trace gives as a script.
use Rattle.std.specs.Prelude.{◌≡◌, ◌≤◌, ℕ, ⊤, List, [], length, map, Option}
use Rattle.line_core.specs.declared.script.TheConstants.{SCRIPT_BYTES}
use Rattle.trace_core.specs.Item.{Meaning}
use Rattle.trace_core.specs.Record.{Printed}
use Rattle.trace_core.specs.declared.tracker.TrackedEvent.{TrackedEvent}
use Rattle.trace_core.specs.declared.window.Span.{Span}
use Rattle.trace_core.specs.Reading.{HasReadWindow}
use Rattle.trace_core.specs.Tracker.{records_in}
use Rattle.trace_script.specs.declared.text.Scripted.{Scripted}
use Rattle.trace_script.specs.declared.text.Scripted.TheVariants.{Script, NoEvents, TooLong}
use Rattle.trace_script.specs.Line.{AreLines}

-- only lines of these forms, within the limit of scripts
abbrev pub IsScript : List ℕ → Type 0
IsScript text = AreLines text × (length text ≤ SCRIPT_BYTES)

-- what is written of a trace that has events: a script, unless it would be too long
abbrev pub IsWritten : Scripted → Type 0
IsWritten (Script text) = IsScript text.items
IsWritten NoEvents = ⊥
IsWritten TooLong = ⊤

-- there are no events exactly if none comes up to the end of the window
abbrev pub IsScripted : List (TrackedEvent × Printed) → Scripted → Type 0
IsScripted seen (Script text) = (seen ≡ [] → ⊥) × IsScript text.items
IsScripted seen NoEvents = seen ≡ []
IsScripted seen TooLong = seen ≡ [] → ⊥

-- The trace was read up to the end of the window, and this is given of it. The newest items and events come first.
pub record ScriptsTrace (span : Span) (text rest : Option (List ℕ)) (scripted : Scripted) : Type 0 where
  pub items : List Meaning
  pub seen : List (TrackedEvent × Printed)
  pub window : HasReadWindow span text rest items seen
  pub records : records_in items ≡ map (λ s. s.1) seen
  pub is : IsScripted seen scripted
