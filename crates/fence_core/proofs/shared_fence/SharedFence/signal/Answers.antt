use Rattle.std.proofs.Common.{◌≡◌, ◌≤◌, ap, ◌∙◌, subst}
use Rattle.point_core.specs.Clocks.{reached_by}
use Rattle.words_core.specs.theorem.Loads.{clock_seen, loads_at}
use Rattle.words_core.specs.theorem.Seat.{SeatModel, with_steps}
use Rattle.words_core.proofs.LoadingAll.{KeepsClosing-clock}
use Rattle.fence_core.specs.SharedFence.{SharedFenceModel}
use Rattle.fence_core.specs.Signal.{IsPendingAt}
use Rattle.fence_core.proofs.Signalling.{HaveFound-more, IsPendingAt-next}
use Rattle.fence_core.proofs.shared_fence.SharedFence.signal.Goals as goal

pub clock-clock-requires-clause-own : goal.clock-clock-requires-clause-own
clock-clock-requires-clause-own c = c.loop-point.invariant.words ∙ c.requires.seat

pub set_once-requires-clause-own : goal.set_once-requires-clause-own
set_once-requires-clause-own c = c.loop-point.invariant.words ∙ c.requires.seat

pub loop-point-preserved : goal.loop-point-preserved
loop-point-preserved c =
    let load = c.clock-clock.ensures in
    let before = c.loop-point.invariant in
    record {
      found = HaveFound-more c.args.seat.now c.loop-point.seat c.clock-clock.new.seat c.members-point-items.result.now c.loop-point.point-index c.point-item.result c.loop-point-test.true c.point-item.is before.found
          (record {
            clock = c.clock-clock.result;
            entered = load.entered;
            found = load.found;
            later = load.later;
            closing = KeepsClosing-clock c.loop-point.seat c.clock-clock.new.seat c.point-item.result.ctx c.clock-clock.result load.found load.last load.stays;
            reached = c.is_pending.ensures.reached c.if-is_pending.false;
          });
      words = ap (λ (s : SeatModel). s.words) load.entered ∙ before.words;
      parts = ap (λ (s : SeatModel). s.parts) load.entered ∙ before.parts;
    }

pub returns-then-is_pending-clause-not_yet : goal.returns-then-is_pending-clause-not_yet
returns-then-is_pending-clause-not_yet c =
    let points = c.members-point-items.ensures.value ∙ ap (λ (f : SharedFenceModel). f.points) c.self.view_is in
    let p = c.point-item.result in
    let clock = c.clock-clock.result in
    let seat = c.loop-point.seat in
    let told = c.is_pending.ensures.pending c.if-is_pending.true in
    let load = c.clock-clock.ensures in
    subst (λ ps. IsPendingAt ps c.args.seat.now c.clock-clock.new.seat p.ctx clock.value) points
    (IsPendingAt-next c.args.seat.now seat c.clock-clock.new.seat c.members-point-items.result.now c.loop-point.point-index p clock.value c.loop-point-test.true c.point-item.is told.1 c.loop-point.invariant.found
    (subst (λ k. reached_by (clock_seen seat p.ctx) ≤ reached_by k) told.0 load.later)
    (subst (λ k. c.clock-clock.new.seat ≡ with_steps seat (loads_at p.ctx k)) told.0 load.entered))

pub returns-then-is_pending-clause-same : goal.returns-then-is_pending-clause-same
returns-then-is_pending-clause-same c =
    let entered = c.clock-clock.ensures.entered in
    let before = c.loop-point.invariant in
    (ap (λ (s : SeatModel). s.words) entered ∙ before.words, ap (λ (s : SeatModel). s.parts) entered ∙ before.parts)

pub returns-in-First-clause-same : goal.returns-in-First-clause-same
returns-in-First-clause-same c =
    let before = c.loop-point.invariant in
    let entered = c.in-First.ensures.first.1 in
    (ap (λ (s : SeatModel). s.words) entered ∙ before.words, ap (λ (s : SeatModel). s.parts) entered ∙ before.parts)

pub returns-in-Already-clause-same : goal.returns-in-Already-clause-same
returns-in-Already-clause-same c =
    let before = c.loop-point.invariant in
    let entered = c.in-Already.ensures.already in
    (ap (λ (s : SeatModel). s.words) entered ∙ before.words, ap (λ (s : SeatModel). s.parts) entered ∙ before.parts)
