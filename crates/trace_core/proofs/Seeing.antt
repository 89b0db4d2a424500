-- A ledger that has seen one more event, or forgot a context.
use Rattle.std.proofs.Common.{◌≡◌, nat_le, Bool, true, cond, List, ◌∷◌, sym, ap, ◌∙◌}
use Rattle.trace_core.specs.declared.finding.Finding.{Finding}
use Rattle.trace_core.specs.declared.ledger.Ledger.{Ledger}
use Rattle.trace_core.specs.declared.life.Life.{Life}
use Rattle.trace_core.specs.declared.fence_event.ContextKey.{ContextKey}
use Rattle.trace_core.specs.declared.fence_event.FenceKey.{FenceKey}
use Rattle.trace_core.specs.declared.fence_event.FenceEvent.{FenceEvent}
use Rattle.trace_core.specs.declared.fence_event.TimelineKey.{TimelineKey}
use Rattle.trace_core.specs.Contexts.{context_at, context_after, found_of, no_context}
use Rattle.trace_core.specs.History.{Step, Seen, Forgot, IsLedgerOf, is_past, events_in, loss_in, is_sure, life_in, context_in, found_in, tally_in, is_of_timeline}
use Rattle.trace_core.specs.Keys.{same_context, same_timeline, context_of, timeline_of}
use Rattle.trace_core.specs.Lives.{life_at, life_step}
use Rattle.trace_core.specs.Tally.{plus_one, tally_after}
use Rattle.trace_core.specs.Timelines.{tally_at}
use Rattle.trace_core.proofs.Same.{swap, same_timeline-is}

step : {X : Type 0} (f : X → X) (b : Bool) (x y z : X) → (b ≡ true → x ≡ z) → y ≡ z → cond b (f x) y ≡ cond b (f z) z
step f b x y z is same = swap f b x z y is ∙ ap (λ w. cond b (f z) w) same

-- what was known before the event, and what it left
pub record HasSeen (old new : Ledger) (e : FenceEvent) (life : Life) (found : Finding) (tk : TimelineKey) : Type 0 where
  pub life-is : life ≡ life_at old.lives e.key
  pub found-is : found ≡ found_of e life (nat_le old.loss life.born) (context_at old.contexts (context_of e.key))
  pub tk-is : tk ≡ timeline_of e.key
  pub events : new.events ≡ plus_one old.events
  pub loss : new.loss ≡ old.loss
  pub lives : (key : FenceKey) → life_at new.lives key ≡ life_step e old.events (life_at old.lives e.key) key (life_at old.lives key)
  pub contexts : (key : ContextKey) → context_at new.contexts key ≡ cond (same_context (context_of e.key) key) (context_after e old.events found (context_at old.contexts (context_of e.key))) (context_at old.contexts key)
  pub timelines : (key : TimelineKey) → tally_at new.timelines key ≡ cond (same_timeline tk key) (tally_after found (tally_at old.timelines tk)) (tally_at old.timelines key)
  pub total : new.total ≡ tally_after found old.total

module _ (old new : Ledger) (e : FenceEvent) (life : Life) (found : Finding) (tk : TimelineKey) (steps : List Step) (s : HasSeen old new e life found tk) (h : IsLedgerOf old steps) where
  pub life-known : life ≡ life_in steps e.key
  life-known = s.life-is ∙ h.lives e.key

  pub found-known : found ≡ found_in steps e
  found-known =
      s.found-is
      ∙ ap (λ n. found_of e life (nat_le n life.born) (context_at old.contexts (context_of e.key))) h.loss
      ∙ ap (λ (l : Life). found_of e l (nat_le (loss_in steps) l.born) (context_at old.contexts (context_of e.key))) life-known
      ∙ ap (found_of e (life_in steps e.key) (is_sure steps e.key)) (h.contexts (context_of e.key))

  lives-seen : (key : FenceKey) → life_at new.lives key ≡ life_in (Seen e ∷ steps) key
  lives-seen key =
      s.lives key
      ∙ ap (λ n. life_step e n (life_at old.lives e.key) key (life_at old.lives key)) h.events
      ∙ ap (λ l. life_step e (events_in steps) l key (life_at old.lives key)) (h.lives e.key)
      ∙ ap (λ l. life_step e (events_in steps) (life_in steps e.key) key l) (h.lives key)

  contexts-seen : (key : ContextKey) → context_at new.contexts key ≡ context_in (Seen e ∷ steps) key
  contexts-seen key =
      let same = same_context (context_of e.key) key in
      let own = context_at old.contexts (context_of e.key) in
      s.contexts key
      ∙ ap (λ n. cond same (context_after e n found own) (context_at old.contexts key)) h.events
      ∙ ap (λ f. cond same (context_after e (events_in steps) f own) (context_at old.contexts key)) found-known
      ∙ ap (λ c. cond same (context_after e (events_in steps) (found_in steps e) c) (context_at old.contexts key)) (h.contexts (context_of e.key))
      ∙ ap (λ c. cond same (context_after e (events_in steps) (found_in steps e) (context_in steps (context_of e.key))) c) (h.contexts key)

  timelines-seen : (key : TimelineKey) → tally_at new.timelines key ≡ tally_in (is_of_timeline key) (Seen e ∷ steps)
  timelines-seen key =
      let now = tally_at old.timelines key in
      let same = same_timeline (timeline_of e.key) key in
      s.timelines key
      ∙ ap (λ k. cond (same_timeline k key) (tally_after found (tally_at old.timelines k)) now) s.tk-is
      ∙ ap (λ f. cond same (tally_after f (tally_at old.timelines (timeline_of e.key))) now) found-known
      ∙ step (tally_after (found_in steps e)) same (tally_at old.timelines (timeline_of e.key)) now (tally_in (is_of_timeline key) steps) (λ is. h.timelines (timeline_of e.key) ∙ ap (λ k. tally_in (is_of_timeline k) steps) (same_timeline-is (timeline_of e.key) key is)) (h.timelines key)

  pub seen : IsLedgerOf new (Seen e ∷ steps)
  seen = record {
    events = s.events ∙ ap plus_one h.events;
    loss = s.loss ∙ h.loss;
    lives = lives-seen;
    contexts = contexts-seen;
    timelines = timelines-seen;
    total = s.total ∙ ap (λ f. tally_after f old.total) found-known ∙ ap (tally_after (found_in steps e)) h.total;
    forgets = h.forgets;
  }

module _ (old new : Ledger) (past : FenceKey) (steps : List Step) (h : IsLedgerOf old steps) where
  pub forgot : (same : (c : ContextKey) → context_at new.contexts c ≡ cond (same_context (context_of past) c) no_context (context_at old.contexts c)) → new.events ≡ old.events → new.loss ≡ old.loss → new.lives ≡ old.lives → new.timelines ≡ old.timelines → new.total ≡ old.total → is_past (life_at old.lives past) (context_at old.contexts (context_of past)) past ≡ true → IsLedgerOf new (Forgot past ∷ steps)
  forgot same events loss lives timelines total is = record {
    events = events ∙ h.events;
    loss = loss ∙ h.loss;
    lives = λ key. ap (λ l. life_at l key) lives ∙ h.lives key;
    contexts = λ c. same c ∙ ap (cond (same_context (context_of past) c) no_context) (h.contexts c);
    timelines = λ key. ap (λ t. tally_at t key) timelines ∙ h.timelines key;
    total = total ∙ h.total;
    forgets = (sym (ap (λ l. is_past l (context_at old.contexts (context_of past)) past) (h.lives past) ∙ ap (λ c. is_past (life_in steps past) c past) (h.contexts (context_of past))) ∙ is, h.forgets);
  }
