-- What a tracker keeps of the items of a text.
use Rattle.std.specs.Prelude.{◌≡◌, ℕ, ⊤, Bool, true, false, IfSome, List, [], ◌∷◌, map, Option, None, Some, option_map}
use Rattle.trace_core.specs.Item.{Meaning, Event, Lost as LostEvents, BufferStarted}
use Rattle.trace_core.specs.Record.{Printed}
use Rattle.trace_core.specs.declared.names.Names.{Names}
use Rattle.trace_core.specs.declared.fence_event.FenceEvent.{FenceEvent}
use Rattle.trace_core.specs.declared.tracker.TrackedEvent.{TrackedEvent}
use Rattle.trace_core.specs.declared.tracker.Tracker.{Tracker}
use Rattle.trace_core.specs.History.{Step, Seen, Lost, Forgot, IsLedgerOf, found_in, life_in}
use Rattle.trace_core.specs.Names.{name_at}
use Rattle.trace_core.specs.Summary.{end_in}
use Rattle.trace_core.specs.Waits.{AreOpen, IsWaitOf, open_waits, started_of, wait_in}

-- the event says what the record says, with numbers for names
pub record Says (drivers timelines : Names) (e : FenceEvent) (r : Printed) : Type 0 where
  pub event : e.kind ≡ r.event
  pub driver : name_at drivers e.key.driver ≡ Some r.driver
  pub timeline : name_at timelines e.key.timeline ≡ Some r.timeline
  pub context : e.key.context ≡ r.context
  pub seqno : e.key.seqno ≡ r.seqno
  pub time : e.time ≡ r.time
  pub pid : e.pid ≡ r.pid

-- what the items say of fences: the record of an event, or none where events were lost
abbrev pub steps_of : List Meaning → List (Option Printed)
steps_of [] = []
steps_of (Event r ∷ items) = Some r ∷ steps_of items
steps_of (LostEvents cpu events ∷ items) = None ∷ steps_of items
steps_of (BufferStarted cpu ∷ items) = None ∷ steps_of items
steps_of (_ ∷ items) = steps_of items

abbrev pub IsStep : Names → Names → Option Printed → Step → Type 0
IsStep drivers timelines (Some r) (Seen e) = Says drivers timelines e r
IsStep drivers timelines None Lost = ⊤
IsStep drivers timelines _ _ = ⊥

-- the steps but for what was forgotten
abbrev pub unforgetting : List Step → List Step
unforgetting [] = []
unforgetting (Seen e ∷ earlier) = Seen e ∷ unforgetting earlier
unforgetting (Lost ∷ earlier) = Lost ∷ unforgetting earlier
unforgetting (Forgot key ∷ earlier) = unforgetting earlier

-- one after another, the newest first in both
abbrev pub AreSteps : Names → Names → List (Option Printed) → List Step → Type 0
AreSteps drivers timelines [] [] = ⊤
AreSteps drivers timelines [] (step ∷ steps) = ⊥
AreSteps drivers timelines (said ∷ more) [] = ⊥
AreSteps drivers timelines (said ∷ more) (step ∷ steps) =
    IsStep drivers timelines said step × AreSteps drivers timelines more steps

-- a name keeps its number
abbrev pub Keeps : Names → Names → Type 0
Keeps old new = (n : ℕ) (name : List ℕ) → name_at old n ≡ Some name → name_at new n ≡ Some name

-- The answer for an event: its key's life before the event, what was found of it, and the wait of its task for its fence that
-- it begins or ends, if any.
pub record IsSeen (earlier : List Step) (e : FenceEvent) (seen : TrackedEvent) : Type 0 where
  pub event : seen.event ≡ e
  pub life : seen.life ≡ life_in earlier e.key
  pub found : seen.found ≡ found_in earlier e
  pub wait : IfSome seen.wait (IsWaitOf e)
  pub begun : option_map started_of seen.wait ≡ wait_in earlier e

-- the answers for the events, each with its record; the newest first in both
abbrev pub AreSeen : List Step → List (TrackedEvent × Printed) → Type 0
AreSeen [] [] = ⊤
AreSeen [] (seen ∷ more) = ⊥
AreSeen (Seen e ∷ earlier) [] = ⊥
AreSeen (Seen e ∷ earlier) (seen ∷ more) = IsSeen earlier e seen.0 × AreSeen earlier more
AreSeen (Lost ∷ earlier) seen = AreSeen earlier seen
AreSeen (Forgot key ∷ earlier) seen = AreSeen earlier seen

-- whether an item is the record of an event
abbrev pub is_event : Meaning → Bool
is_event (Event r) = true
is_event _ = false

-- the answer for an item, with its record
abbrev pub given : Option TrackedEvent → Meaning → List (TrackedEvent × Printed)
given (Some seen) (Event r) = (seen, r) ∷ []
given _ _ = []

-- the records among the items
abbrev pub records_in : List Meaning → List Printed
records_in [] = []
records_in (Event r ∷ items) = r ∷ records_in items
records_in (_ ∷ items) = records_in items

-- The steps are the items' events and losses, each once and in order, and these are the answers. The newest come first.
pub record Saw (drivers timelines : Names) (items : List Meaning) (seen : List (TrackedEvent × Printed)) (steps : List Step) : Type 0 where
  pub are : AreSteps drivers timelines (steps_of items) (unforgetting steps)
  pub seen_are : AreSeen steps seen
  pub records : records_in items ≡ map (λ s. s.1) seen

-- The ledger is the folds over the items' events and losses, the waits that are kept are the open ones, and these were the
-- answers for the events.
pub record Follows (t : Tracker) (items : List Meaning) (seen : List (TrackedEvent × Printed)) : Type 0 where
  pub steps : List Step
  pub saw : Saw t.drivers t.timelines items seen steps
  pub ledger : IsLedgerOf t.ledger steps
  pub waits : AreOpen t.waits (open_waits steps)

-- The tracker follows the fences of a text of these items, and knows up to when the text goes.
pub record Tracks (t : Tracker) (items : List Meaning) (seen : List (TrackedEvent × Printed)) : Type 0 where
  pub fences : Follows t items seen
  pub end : t.summary.end ≡ end_in items
