use Rattle.std.proofs.Common.{◌≡◌, ap, ◌∙◌, subst, arith, get_or, slice_get}
use Rattle.explore_core.specs.Choice.{IsOrderlyAt, choice_of}
use Rattle.explore_core.specs.Flow.{bounds_of}
use Rattle.explore_core.specs.Schedule.{lines_of, made_by}
use Rattle.explore_core.proofs.persistence.is_stopped.Goals as goal

pub returns-then-are_orderly : goal.returns-then-are_orderly
returns-then-are_orderly c = λ is now at.
    let plan = c.args.plan.now in
    let client = c.args.client in
    let choice = choice_of c.args.choice.now in
    let place : c.place_of-place.result ≡ made_by now client = c.place_of-place.ensures ∙ ap (λ ms. get_or ms client 0) (c.as_slice.ensures.value ∙ at.made) in
    let limit : c.limit-limit.result ≡ choice.limit client = c.limit-limit.ensures in
    record {
      within = omega (arith, place, limit, c.if-place-limit.false);
      held = λ line there. c.waits_at.ensures is now at line (ap (slice_get (lines_of plan client)) limit ∙ there);
      orderly = λ k from below. subst (λ x. IsOrderlyAt (bounds_of c.args.choice.now.flow) plan client x k) limit (c.are_orderly.ensures c.if-are_orderly.true k (omega (arith, from, place)) (omega (arith, below, limit)));
    }
