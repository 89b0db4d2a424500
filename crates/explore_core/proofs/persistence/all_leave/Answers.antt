use Rattle.std.proofs.Common.{◌≡◌, length, ap, ◌∙◌, arith, inl, inr}
use Rattle.std.proofs.lemmas.Bool.{cases_lt}
use Rattle.explore_core.specs.Choice.{ClientLeaves, choice_of}
use Rattle.explore_core.specs.Flow.{bounds_of}
use Rattle.explore_core.specs.Schedule.{Lines}
use Rattle.explore_core.specs.Search.{has_name}
use Rattle.explore_core.proofs.Settling.{each-more, no-ahead}
use Rattle.explore_core.proofs.Trying.{clients-count}
use Rattle.explore_core.proofs.persistence.all_leave.Goals as goal

pub loop-client-init : goal.loop-client-init
loop-client-init c = λ now made client low. absurd (omega (arith, low))

pub loop-client-preserved : goal.loop-client-preserved
loop-client-preserved c = λ now made client low.
    each-more (ClientLeaves (has_name c.args.asked.now) (bounds_of c.args.choice.now.flow) c.args.plan.now now (choice_of c.args.choice.now) c.args.what.now) 0 c.loop-client.client
    (λ k from below. c.loop-client.invariant now made k below) (c.client_leaves.ensures c.if-not-client_leaves.false now made) client (omega arith) low

pub returns : goal.returns
returns c = λ is now made client.
    let plan = c.args.plan.now in
    let clients : c.len-client-end.result ≡ length plan.clients = c.len-client-end.ensures ∙ c.plan.inside.clients.ok.0 ∙ clients-count plan _ (ap (λ (p : Lines). p.clients) c.plan.view_is) in
    elim (cases_lt client (length plan.clients)) [
      | inl below ↦ c.loop-client.invariant now made client (omega (arith, below, clients, c.loop-client-test.false))
      | inr past ↦ λ place line ahead. absurd (no-ahead client place line past ahead)
    ]
