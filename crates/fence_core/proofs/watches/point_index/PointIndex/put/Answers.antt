use Rattle.std.proofs.Common.{◌≡◌, ◌||◌, ◌∙◌, ap, set}
use Rattle.fence_core.specs.declared.watches.point_index.WaitingPoint.{WaitingPoint as Waiting}
use Rattle.fence_core.specs.PointIndex.{waiting, is_same, standing_of, is_alike, has, is_low, holds, number, number_due}
use Rattle.fence_core.proofs.PointIndex.{holds-same, queue-put, queue-put_due, queue-same}
use Rattle.fence_core.proofs.Above.{OnErr-always}
use Rattle.fence_core.proofs.watches.point_index.PointIndex.put.Goals as goal

pub returns-clause-put : goal.returns-clause-put
returns-clause-put c = λ k.
    let queues = c.make_queues.new.queues.items in
    let key = waiting c.args.point.now c.args.registration in
    queue-put queues c.index-index.result key c.index_mut.result.now c.put.new.self c.index-index.ensures.value c.in_ok-make_queues.ensures.enough
    (λ s. c.in_ok-put.ensures.put s ∙ ap (λ q. is_alike (standing_of key) s || has q s) c.index_mut.ensures.value) k
    ∙ ap (λ b. is_same key k || b) (holds-same c.self.inside.queues.items queues k (c.make_queues.ensures.same k.ctx) ∙ ap (λ qs. holds qs k) c.self.view_is)

pub returns-clause-due : goal.returns-clause-due
returns-clause-due c = λ ctx value none.
    queue-put_due c.make_queues.new.queues.items c.index-index.result (waiting c.args.point.now c.args.registration) c.index_mut.result.now c.put.new.self c.index-index.ensures.value c.in_ok-make_queues.ensures.enough
    (λ v past. c.in_ok-put.ensures.low v past ∙ ap (number (is_low v)) c.index_mut.ensures.value) ctx value none
    ∙ ap (number (is_low value)) (c.make_queues.ensures.same ctx) ∙ ap (number_due ctx value) c.self.view_is

pub returns-in_err-make_queues-clause-unchanged : goal.returns-in_err-make_queues-clause-unchanged
returns-in_err-make_queues-clause-unchanged c =
    let same : (k : Waiting) → holds c.make_queues.new.queues.items k ≡ holds c.args.self.now k = λ k.
    holds-same c.self.inside.queues.items c.make_queues.new.queues.items k (c.make_queues.ensures.same k.ctx) ∙ ap (λ qs. holds qs k) c.self.view_is in
    OnErr-always _ _ same

pub returns-in_err-put-clause-unchanged : goal.returns-in_err-put-clause-unchanged
returns-in_err-put-clause-unchanged c =
    let queues = c.make_queues.new.queues.items in
    let same : (k : Waiting) → holds (set queues c.index-index.result c.put.new.self) k ≡ holds c.args.self.now k = λ k.
    queue-same queues c.index-index.result (waiting c.args.point.now c.args.registration) c.index_mut.result.now c.put.new.self c.index-index.ensures.value c.in_ok-make_queues.ensures.enough
    (c.in_err-put.ensures.unchanged ∙ c.index_mut.ensures.value) k
    ∙ holds-same c.self.inside.queues.items queues k (c.make_queues.ensures.same k.ctx) ∙ ap (λ qs. holds qs k) c.self.view_is in
    OnErr-always _ _ same
