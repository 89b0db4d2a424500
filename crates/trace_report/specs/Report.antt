-- What a report says of a whole trace.
use Rattle.std.specs.Prelude.{◌≡◌, ◌==◌, ◌&&◌, ℕ, Bool, true, false, List, [], ◌∷◌, Option}
use Rattle.trace_core.specs.Item.{Meaning}
use Rattle.trace_core.specs.Record.{Printed}
use Rattle.trace_core.specs.declared.names.Names.{Names}
use Rattle.trace_core.specs.declared.pending.Pending.{Pending}
use Rattle.trace_core.specs.declared.fence_event.FenceKey.{FenceKey}
use Rattle.trace_core.specs.declared.tally.Tally.{Tally}
use Rattle.trace_core.specs.declared.tracker.TrackedEvent.{TrackedEvent}
use Rattle.trace_core.specs.declared.window.Span.{Span}
use Rattle.trace_core.specs.History.{Forgets, Step, every, events_in, tally_in}
use Rattle.trace_core.specs.Reading.{HasReadWindow}
use Rattle.trace_core.specs.Tracker.{Saw}
use Rattle.trace_report.specs.declared.report.TraceOutcome.{TraceOutcome}
use Rattle.trace_report.specs.declared.report.TraceOutcome.TheVariants.{Sound, Broken, NoEvents}
use Rattle.trace_report.specs.Found.{is_reported}

-- no fence is reported as hanging, and no rule was broken
pub record IsSound (steps : List Step) : Type 0 where
  pub none : (key : FenceKey) → is_reported steps key ≡ true → ⊥
  pub overtaken : (tally_in every steps).overtaken ≡ 0
  pub twice : (tally_in every steps).signalled_twice ≡ 0

abbrev pub are_none : List Pending → Bool
are_none [] = true
are_none (fence ∷ fences) = false

-- the same, by the fences that are listed as hanging and by the counts
abbrev pub is_sound : List Pending → Tally → Bool
is_sound fences total = (are_none fences && total.overtaken == 0) && total.signalled_twice == 0

abbrev pub IsVerdict : List Step → TraceOutcome → Type 0
IsVerdict steps Sound = IsSound steps
IsVerdict steps Broken = IsSound steps → ⊥
IsVerdict steps NoEvents = ⊥

-- what a trace shows by its steps; of a trace without an event nothing is written
abbrev pub Shows : List Step → Option (List ℕ) → Option (List ℕ) → TraceOutcome → Type 0
Shows steps before after NoEvents = (events_in steps ≡ 0) × (after ≡ before)
Shows steps before after Sound = (events_in steps ≡ 0 → ⊥) × IsSound steps
Shows steps before after Broken = (events_in steps ≡ 0 → ⊥) × (IsSound steps → ⊥)

-- The trace was read up to the end of the window, and shows this. The newest items, events and steps come first.
pub record ReportsTrace (span : Span) (text rest before after : Option (List ℕ)) (outcome : TraceOutcome) : Type 0 where
  pub items : List Meaning
  pub seen : List (TrackedEvent × Printed)
  pub drivers : Names
  pub timelines : Names
  pub steps : List Step
  pub window : HasReadWindow span text rest items seen
  pub saw : Saw drivers timelines items seen steps
  pub forgets : Forgets steps
  pub shows : Shows steps before after outcome
