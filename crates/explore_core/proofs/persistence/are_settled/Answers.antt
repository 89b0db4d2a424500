use Rattle.std.proofs.Common.{◌≡◌, length, ap, ◌∙◌, arith, inl, inr}
use Rattle.std.proofs.lemmas.Bool.{cases_lt}
use Rattle.explore_core.specs.Choice.{IsSettled, choice_of}
use Rattle.explore_core.specs.Flow.{bounds_of}
use Rattle.explore_core.specs.Schedule.{Lines}
use Rattle.explore_core.specs.Search.{has_name}
use Rattle.explore_core.proofs.Settling.{each-more, IsSettled-past}
use Rattle.explore_core.proofs.Trying.{clients-count}
use Rattle.explore_core.proofs.persistence.are_settled.Goals as goal

pub loop-client-init : goal.loop-client-init
loop-client-init c = λ now at client low. absurd (omega (arith, low))

pub loop-client-preserved : goal.loop-client-preserved
loop-client-preserved c = λ now at client low.
    each-more (IsSettled (has_name c.args.asked.now) (bounds_of c.args.choice.now.flow) c.args.plan.now now (choice_of c.args.choice.now)) 0 c.loop-client.client
    (λ k from below. c.loop-client.invariant now at k below) (c.is_settled.ensures c.if-not-is_settled.false now at) client (omega arith) low

pub returns : goal.returns
returns c = λ is now at client.
    let plan = c.args.plan.now in
    let clients : c.len-client-end.result ≡ length plan.clients = c.len-client-end.ensures ∙ c.plan.inside.clients.ok.0 ∙ clients-count plan _ (ap (λ (p : Lines). p.clients) c.plan.view_is) in
    let listed = c.len.ensures in
    let counted = c.len-2.ensures in
    let made : c.len.result ≡ length now.made = c.len.ensures ∙ c.args.position.now.made.ok.0 ∙ ap length at.made in
    elim (cases_lt client (length plan.clients)) [
      | inl below ↦ c.loop-client.invariant now at client (omega (arith, below, clients, c.loop-client-test.false))
      | inr past ↦ IsSettled-past client past (omega (arith, past, clients, made, c.if-len.false, listed, counted))
    ]
