-- What a tracker keeps, when names are added and an event is seen.
use Rattle.std.proofs.Common.{◌≡◌, Bool, true, false, refl, sym, ap, ◌∙◌, subst, List, [], ◌∷◌, Option, None, Some, arith}
use Rattle.trace_core.specs.Item.{Meaning, Event}
use Rattle.trace_core.specs.Record.{Printed}
use Rattle.trace_core.specs.declared.names.Names.{Names}
use Rattle.trace_core.specs.declared.fence_event.FenceEvent.{FenceEvent}
use Rattle.trace_core.specs.declared.ledger.Ledger.{Ledger}
use Rattle.trace_core.specs.declared.fence_event.FenceKey.{FenceKey}
use Rattle.trace_core.specs.declared.tracker.TrackedEvent.{TrackedEvent}
use Rattle.trace_core.specs.History.{Step, Seen, Lost, Forgot, IsLedgerOf, events_in, found_in, life_in}
use Rattle.std.specs.Prelude.{IfSome, option_map}
use Rattle.trace_core.specs.Names.{name_at}
use Rattle.trace_core.specs.Waits.{IsWaitOf, open_waits, started_of, wait_in}
use Rattle.trace_core.specs.Tracker.{AreSeen, IsSeen, Says, IsStep, AreSteps, Keeps, steps_of, unforgetting}

module _ (d e t u : Names) (drivers : Keeps d e) (timelines : Keeps t u) where
  says-kept : (s : FenceEvent) (r : Printed) → Says d t s r → Says e u s r
  says-kept s r says = record {
    event = says.event;
    driver = drivers s.key.driver r.driver says.driver;
    timeline = timelines s.key.timeline r.timeline says.timeline;
    context = says.context;
    seqno = says.seqno;
    time = says.time;
    pid = says.pid;
  }

  step-kept : (said : Option Printed) (step : Step) → IsStep d t said step → IsStep e u said step
  step-kept (Some r) (Seen s) is = says-kept s r is
  step-kept (Some r) Lost is = is
  step-kept None (Seen s) is = is
  step-kept None Lost is = is
  step-kept None (Forgot key) is = elim is [ ]
  step-kept (Some r) (Forgot key) is = elim is [ ]

  pub steps-kept : (said : List (Option Printed)) (steps : List Step) → AreSteps d t said steps → AreSteps e u said steps
  steps-kept [] [] are = are
  steps-kept [] (step ∷ steps) are = are
  steps-kept (x ∷ more) [] are = are
  steps-kept (x ∷ more) (step ∷ steps) are = (step-kept x step are.0, steps-kept more steps are.1)

pub seen : (d d1 d2 t t1 t2 : Names) (items : List Meaning) (s : FenceEvent) (r : Printed) (steps : List Step) → AreSteps d t (steps_of items) (unforgetting steps) → Keeps d d1 → Keeps t t1 → Says d1 t1 s r → d2 ≡ d1 → t2 ≡ t1 → AreSteps d2 t2 (steps_of (Event r ∷ items)) (unforgetting (Seen s ∷ steps))
seen d d1 d2 t t1 t2 items s r steps are drivers timelines says d-is t-is =
    subst (λ x. AreSteps x t2 (Some r ∷ steps_of items) (Seen s ∷ unforgetting steps)) (sym d-is) (subst (λ x. AreSteps d1 x (Some r ∷ steps_of items) (Seen s ∷ unforgetting steps)) (sym t-is) (says, steps-kept d d1 t t1 drivers timelines (steps_of items) (unforgetting steps) are))

-- a ledger of the same events that may have forgotten a context
pub record IsLedgerLike (l : Ledger) (steps : List Step) : Type 0 where
  pub more : List Step
  pub same : unforgetting more ≡ unforgetting steps
  pub seen : (given : List (TrackedEvent × Printed)) → AreSeen steps given → AreSeen more given
  pub ledger : IsLedgerOf l more
  pub open_same : open_waits more ≡ open_waits steps

pub maybe : (b : Bool) (l m : Ledger) (key : FenceKey) (steps : List Step) → IsLedgerOf l steps → (b ≡ true → (s : List Step) → IsLedgerOf l s → IsLedgerOf m (Forgot key ∷ s)) → (b ≡ false → m ≡ l) → IsLedgerLike m steps
maybe true l m key steps h forgot kept = record {
  more = Forgot key ∷ steps;
  same = refl;
  seen = λ given are. are;
  ledger = forgot refl steps h;
  open_same = refl;
}
maybe false l m key steps h forgot kept = record {
  more = steps;
  same = refl;
  seen = λ given are. are;
  ledger = subst (λ x. IsLedgerOf x steps) (sym (kept refl)) h;
  open_same = refl;
}

pub is-seen : (earlier : List Step) (given : TrackedEvent) → given.life ≡ life_in earlier given.event.key → given.found ≡ found_in earlier given.event → IfSome given.wait (IsWaitOf given.event) → option_map started_of given.wait ≡ wait_in earlier given.event → IsSeen earlier given.event given
is-seen earlier given life found wait begun = record { event = refl; life = life; found = found; wait = wait; begun = begun }

-- the newest event has the names of its record
pub named : (d t : Names) (printed : Printed) (items : List Meaning) (given : TrackedEvent) (earlier : List (TrackedEvent × Printed)) (steps : List Step) → AreSteps d t (steps_of (Event printed ∷ items)) (unforgetting steps) → AreSeen steps ((given, printed) ∷ earlier) → (name_at d given.event.key.driver ≡ Some printed.driver) × (name_at t given.event.key.timeline ≡ Some printed.timeline)
named d t printed items given earlier [] are seen = elim are [ ]
named d t printed items given earlier (Seen e ∷ steps) are seen = (
  ap (λ s. name_at d s.key.driver) seen.0.event ∙ are.0.driver,
  ap (λ s. name_at t s.key.timeline) seen.0.event ∙ are.0.timeline,
)
named d t printed items given earlier (Lost ∷ steps) are seen = elim are.0 [ ]
named d t printed items given earlier (Forgot key ∷ steps) are seen = named d t printed items given earlier steps are seen

-- no event was seen exactly where none was given
pub none-given : (steps : List Step) (given : List (TrackedEvent × Printed)) → AreSeen steps given → events_in steps ≡ 0 → given ≡ []
none-given [] [] are none = refl
none-given [] (seen ∷ more) are none = elim are [ ]
none-given (Seen e ∷ steps) given are none = absurd (omega (arith, none))
none-given (Lost ∷ steps) given are none = none-given steps given are none
none-given (Forgot key ∷ steps) given are none = none-given steps given are none

pub none-seen : (steps : List Step) → AreSeen steps [] → events_in steps ≡ 0
none-seen [] are = refl
none-seen (Seen e ∷ steps) are = elim are [ ]
none-seen (Lost ∷ steps) are = none-seen steps are
none-seen (Forgot key ∷ steps) are = none-seen steps are
