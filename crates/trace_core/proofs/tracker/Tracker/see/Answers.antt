use Rattle.std.proofs.Common.{◌∷◌, ap, sym, subst}
use Rattle.trace_core.specs.Item.{Event}
use Rattle.trace_core.specs.Record.{printed}
use Rattle.trace_core.specs.History.{Seen, IsLedgerOf}
use Rattle.trace_core.specs.Tracker.{AreSteps, steps_of}
use Rattle.trace_core.specs.Waits.{AreOpen, open_waits}
use Rattle.trace_core.proofs.Tracking.{is-seen, seen, maybe}
use Rattle.trace_core.proofs.tracker.Tracker.see.Goals as goal

pub returns-clause-seen : goal.returns-clause-seen
returns-clause-seen c =
    λ items earlier old.
    let s = c.in_ok-event.event in
    let known = subst (λ l. IsLedgerOf l old.steps) (sym c.fence_event.ensures.ledger) old.ledger in
    let ledger = c.in_ok-life.ensures.seen old.steps known in
    let waits = subst (λ w. AreOpen w (open_waits old.steps)) (sym c.fence_event.ensures.waits) old.waits in
    let like = maybe c.forget.result c.time.new.self.ledger c.forget.new.self s.key (Seen s ∷ old.steps) (subst (λ l. IsLedgerOf l (Seen s ∷ old.steps)) (sym c.time.ensures.ledger) ledger) c.forget.ensures.forgot c.forget.ensures.kept in
    let are = seen c.args.self.now.drivers c.fence_event.new.self.drivers c.time.new.self.drivers c.args.self.now.timelines c.fence_event.new.self.timelines c.time.new.self.timelines items s (printed c.args.raw.now) old.steps old.saw.are c.fence_event.ensures.drivers c.fence_event.ensures.timelines c.in_ok-event.ensures.says c.time.ensures.drivers c.time.ensures.timelines in
    record {
      steps = like.more;
      saw = record {
        are = subst (AreSteps c.time.new.self.drivers c.time.new.self.timelines (steps_of (Event (printed c.args.raw.now) ∷ items))) (sym like.same) are;
        seen_are = like.seen _ (is-seen old.steps _ (c.in_ok-life.ensures.known old.steps known) (c.in_ok-life.ensures.found old.steps known) c.in_ok-wait.ensures.wait (c.in_ok-wait.ensures.begun (open_waits old.steps) waits), old.saw.seen_are);
        records = ap (λ rs. printed c.args.raw.now ∷ rs) old.saw.records;
      };
      ledger = like.ledger;
      waits = subst (AreOpen c.time.new.self.waits) (sym like.open_same) (c.in_ok-wait.ensures.waits (open_waits old.steps) waits);
    }
