use Rattle.std.proofs.Common.{List, ℕ, ◌∙◌, sym, ap, subst, arith, length}
use Rattle.std.proofs.lemmas.Bool.{false≢true}
use Rattle.point_core.specs.Reach.{value_at, reaching}
use Rattle.std.specs.Prelude.{◌≡◌, true, OnOk}
use Rattle.fence_core.specs.declared.watches.point_index.WaitingPoint.{WaitingPoint as Waiting}
use Rattle.fence_core.specs.PointIndex.{holds, is_due}
use Rattle.fence_core.specs.Reported.{IsReported}
use Rattle.fence_core.proofs.Gathered.{HasGathered-none}
use Rattle.fence_core.proofs.PointIndex.{queue_at-index, holds-past, due-at, OnOk-due}
use Rattle.fence_core.proofs.watches.point_index.PointIndex.report_due.Goals as goal

pub returns-then-index-len-clause-added : goal.returns-then-index-len-clause-added
returns-then-index-len-clause-added c = HasGathered-none c.args.pending.now.entries (reaching c.args.reach.now c.args.point.now) c.args.fired.now.items c.requires.gathered

pub returns-then-index-len-clause-all : goal.returns-then-index-len-clause-all
returns-then-index-len-clause-all c = λ k due there.
    let same = ap length c.self.view_is in
    absurd (false≢true (sym (holds-past c.args.self.now c.index-index.result k (omega (arith, same)) (c.index-index.ensures.value ∙ sym (due-at c.args.point.now.ctx _ k due).0)) ∙ there))

pub returns-clause-all : goal.returns-clause-all
returns-clause-all c =
    let queues = c.self.inside.queues.items in
    let ctx = c.args.point.now.ctx in
    let own = queue_at-index queues c.index-index.result ctx c.index.result.now (omega arith) c.index-index.ensures.value ∙ sym c.index.ensures in
    let reach : List ℕ = reaching c.args.reach.now c.args.point.now in
    subst (λ qs. OnOk c.report_low.result ((k : Waiting) → is_due ctx (value_at reach ctx) k ≡ true → holds qs k ≡ true → IsReported c.args.pending.now.entries reach c.report_low.new.fired.items k.registration)) c.self.view_is
    (OnOk-due c.report_low.result queues c.index.result.now ctx c.value_with-value.result _ (IsReported c.args.pending.now.entries reach c.report_low.new.fired.items) own c.value_with-value.ensures.value c.report_low.ensures.all)
