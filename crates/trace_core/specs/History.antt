-- What a list of events says of fences, as folds over it. The list has the newest event first.
use Rattle.std.specs.Prelude.{◌≡◌, ℕ, ⊤, ◌==◌, nat_le, nat_lt, Bool, true, ◌&&◌, if◌then◌else◌, List, [], ◌∷◌}
use Rattle.trace_core.specs.declared.contexts.ContextState.{ContextState}
use Rattle.trace_core.specs.declared.finding.Finding.{Finding}
use Rattle.trace_core.specs.declared.ledger.Ledger.{Ledger}
use Rattle.trace_core.specs.declared.life.Life.{Life}
use Rattle.trace_core.specs.declared.fence_event.ContextKey.{ContextKey}
use Rattle.trace_core.specs.declared.fence_event.FenceKey.{FenceKey}
use Rattle.trace_core.specs.declared.fence_event.FenceEvent.{FenceEvent}
use Rattle.trace_core.specs.declared.fence_event.TimelineKey.{TimelineKey}
use Rattle.trace_core.specs.declared.tally.Tally.{Tally}
use Rattle.trace_core.specs.Contexts.{context_at, context_seen, found_of, no_context}
use Rattle.trace_core.specs.Keys.{same_context, same_timeline, context_of, timeline_of}
use Rattle.trace_core.specs.Life.{unborn, is_over, is_pending}
use Rattle.trace_core.specs.Lives.{life_at, life_step}
use Rattle.trace_core.specs.Points.{is_only}
use Rattle.trace_core.specs.Tally.{none, plus_one, tally_after}
use Rattle.trace_core.specs.Timelines.{tally_at}

-- An event that was read, a place where events were lost, or one where the context of a key was forgotten, so that memory
-- follows live contexts.
pub data Step : Type 0 where
  Seen : FenceEvent → Step
  Lost : Step
  Forgot : FenceKey → Step

-- how many events were read
abbrev pub events_in : List Step → ℕ
events_in [] = 0
events_in (Seen e ∷ earlier) = plus_one (events_in earlier)
events_in (Lost ∷ earlier) = events_in earlier
events_in (Forgot key ∷ earlier) = events_in earlier

-- how many events were read before events were lost the last time
abbrev pub loss_in : List Step → ℕ
loss_in [] = 0
loss_in (Seen e ∷ earlier) = loss_in earlier
loss_in (Lost ∷ earlier) = events_in earlier
loss_in (Forgot key ∷ earlier) = loss_in earlier

-- what is known of the fences of a key
abbrev pub life_in : List Step → FenceKey → Life
life_in [] key = unborn
life_in (Seen e ∷ earlier) key = life_step e (events_in earlier) (life_in earlier e.key) key (life_in earlier key)
life_in (Lost ∷ earlier) key = life_in earlier key
life_in (Forgot past ∷ earlier) key = life_in earlier key

-- whether no events were lost since a fence of the key was made or emitted
abbrev pub is_sure : List Step → FenceKey → Bool
is_sure steps key = nat_le (loss_in steps) (life_in steps key).born

-- what the fences of a context did, since it was forgotten
abbrev pub context_in : List Step → ContextKey → ContextState
context_in [] key = no_context
context_in (Seen e ∷ earlier) key =
    if same_context (context_of e.key) key
    then context_seen e (events_in earlier) (life_in earlier e.key) (is_sure earlier e.key)
    (context_in earlier (context_of e.key))
    else context_in earlier key
context_in (Lost ∷ earlier) key = context_in earlier key
context_in (Forgot past ∷ earlier) key =
    if same_context (context_of past) key then no_context else context_in earlier key

-- what the next event is
abbrev pub found_in : List Step → FenceEvent → Finding
found_in earlier e = found_of e (life_in earlier e.key) (is_sure earlier e.key) (context_in earlier (context_of e.key))

-- what the fences did that pass the test
abbrev pub tally_in : (FenceKey → Bool) → List Step → Tally
tally_in test [] = none
tally_in test (Seen e ∷ earlier) =
    if test e.key then tally_after (found_in earlier e) (tally_in test earlier) else tally_in test earlier
tally_in test (Lost ∷ earlier) = tally_in test earlier
tally_in test (Forgot past ∷ earlier) = tally_in test earlier

-- whether no fence of the key is alive, and it is the only one of its context
abbrev pub is_past : Life → ContextState → FenceKey → Bool
is_past life context key = is_over life && is_only key.seqno context.points

-- a context is forgotten only if all its events had one key and no fence of that key is alive
abbrev pub Forgets : List Step → Type 0
Forgets [] = ⊤
Forgets (Seen e ∷ earlier) = Forgets earlier
Forgets (Lost ∷ earlier) = Forgets earlier
Forgets (Forgot key ∷ earlier) =
    (is_past (life_in earlier key) (context_in earlier (context_of key)) key ≡ true) × Forgets earlier

abbrev pub every : FenceKey → Bool
every key = true

abbrev pub is_of_timeline : TimelineKey → FenceKey → Bool
is_of_timeline key fence = same_timeline (timeline_of fence) key

-- fences of the key get their number only when their driver emits them, and have none yet
abbrev pub is_unnumbered : List Step → FenceKey → Bool
is_unnumbered steps key =
    key.seqno == 0 && nat_lt 0 (tally_in (is_of_timeline (timeline_of key)) steps).events.emit

-- what is kept is what the events say
pub record IsLedgerOf (ledger : Ledger) (steps : List Step) : Type 0 where
  pub events : ledger.events ≡ events_in steps
  pub loss : ledger.loss ≡ loss_in steps
  pub lives : (key : FenceKey) → life_at ledger.lives key ≡ life_in steps key
  pub contexts : (key : ContextKey) → context_at ledger.contexts key ≡ context_in steps key
  pub timelines : (key : TimelineKey) → tally_at ledger.timelines key ≡ tally_in (is_of_timeline key) steps
  pub total : ledger.total ≡ tally_in every steps
  pub forgets : Forgets steps

-- a fence of the key hangs: one was made or emitted, none was signalled, and no events were lost since
abbrev pub hangs : List Step → FenceKey → Bool
hangs steps key = is_pending (life_in steps key) && is_sure steps key
