use Rattle.std.proofs.Common.{ℕ, ◌≡◌, ◌<◌, true, not, ◌&&◌, ◌∙◌, ap, sym, subst, length, set, arith}
use Rattle.std.proofs.lemmas.Bool.{false≢true}
use Rattle.fence_core.specs.PointIndex.{is_same, standing_of, is_alike, has, is_low, holds, is_due, number, number_due}
use Rattle.fence_core.proofs.PointIndex.{queue-taken, queue-fewer, holds-past, holds-lacking}
use Rattle.fence_core.proofs.watches.point_index.PointIndex.take.Goals as goal

pub returns-clause-taken : goal.returns-clause-taken
returns-clause-taken c = λ k.
    let key = c.args.point.now in
    queue-taken c.self.inside.queues.items c.index-index.result key c.index_mut.result.now c.take.new.self c.index-index.ensures.value (omega (arith, c.index-index.ensures.value))
    (λ s. c.take.ensures.taken s ∙ ap (λ q. not (is_alike (standing_of key) s) && has q s) c.index_mut.ensures.value) k
    ∙ ap (λ qs. not (is_same key k) && holds qs k) c.self.view_is

pub returns-clause-fewer : goal.returns-clause-fewer
returns-clause-fewer c =
    let queues = c.self.inside.queues.items in
    let place = c.index-index.result in
    let key = c.args.point.now in
    let new = c.take.new.self in
    subst (λ qs. (ctx value : ℕ) → is_due ctx value key ≡ true → holds qs key ≡ true → number_due ctx value (set queues place new) < number_due ctx value qs) c.self.view_is
    (queue-fewer queues place key c.index_mut.result.now new c.index-index.ensures.value (omega (arith, c.index-index.ensures.value))
    (subst (λ q. (v : ℕ) → is_low v (standing_of key) ≡ true → has q (standing_of key) ≡ true → number (is_low v) new < number (is_low v) q) c.index_mut.ensures.value c.take.ensures.fewer))

pub returns-then-index-len-clause-taken : goal.returns-then-index-len-clause-taken
returns-then-index-len-clause-taken c = λ k.
    let same = ap length c.self.view_is in
    holds-lacking c.args.self.now c.args.point.now k (holds-past c.args.self.now c.index-index.result c.args.point.now (omega (arith, same)) c.index-index.ensures.value)

pub returns-then-index-len-clause-fewer : goal.returns-then-index-len-clause-fewer
returns-then-index-len-clause-fewer c = λ ctx value due there.
    let same = ap length c.self.view_is in
    absurd (false≢true (sym (holds-past c.args.self.now c.index-index.result c.args.point.now (omega (arith, same)) c.index-index.ensures.value) ∙ there))
