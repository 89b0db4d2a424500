-- When a trace gives a script.
use Rattle.std.proofs.Common.{◌≡◌, ℕ, List, [], Option, subst}
use Rattle.trace_core.specs.History.{events_in}
use Rattle.trace_core.specs.Reading.{HasTakenIn}
use Rattle.trace_core.specs.Tracker.{AreSeen}
use Rattle.trace_core.specs.declared.tracker.Tracker.{Tracker}
use Rattle.trace_core.specs.declared.window.Span.{Span}
use Rattle.trace_core.proofs.Tracking.{none-given, none-seen}
use Rattle.trace_script.specs.declared.text.Scripted.{Scripted}
use Rattle.trace_script.specs.declared.text.Scripted.TheVariants.{Script, NoEvents, TooLong}
use Rattle.trace_script.specs.Scripted.{IsScripted, IsWritten, ScriptsTrace}

module _ (span : Span) (t : Tracker) (text rest : Option (List ℕ)) (h : HasTakenIn span t text rest) where
  scripted : (s : Scripted) → IsScripted h.seen s → ScriptsTrace span text rest s
  scripted s is = record { items = h.items; seen = h.seen; window = h.window; records = h.tracks.fences.saw.records; is = is }

  pub no-events : events_in h.tracks.fences.steps ≡ 0 → ScriptsTrace span text rest NoEvents
  no-events zero = scripted NoEvents (none-given h.tracks.fences.steps h.seen h.tracks.fences.saw.seen_are zero)

  some : (events_in h.tracks.fences.steps ≡ 0 → ⊥) → h.seen ≡ [] → ⊥
  some events none = events (none-seen h.tracks.fences.steps (subst (AreSeen h.tracks.fences.steps) none h.tracks.fences.saw.seen_are))

  pub written : (s : Scripted) → (events_in h.tracks.fences.steps ≡ 0 → ⊥) → IsWritten s → ScriptsTrace span text rest s
  written (Script bytes) events is = scripted (Script bytes) (some events, is)
  written NoEvents events is = absurd is
  written TooLong events is = scripted TooLong (some events)
