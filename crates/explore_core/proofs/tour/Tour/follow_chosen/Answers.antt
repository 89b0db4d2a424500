use Rattle.std.proofs.Common.{◌≡◌, length, refl, sym, ap, ◌∙◌, arith}
use Rattle.explore_core.specs.declared.choice.Choice.{Choice}
use Rattle.explore_core.specs.Schedule.{Lines}
use Rattle.explore_core.specs.Choice.{choice_of}
use Rattle.explore_core.specs.Search.{standing_at}
use Rattle.explore_core.proofs.Levels.{Advances-refl, Advances-trans}
use Rattle.explore_core.proofs.Finding.{chosen-all, chosen-push, chosen-skip, onward-all, onward-push, onward-skip}
use Rattle.explore_core.proofs.Trying.{clients-count}
use Rattle.explore_core.proofs.tour.Tour.follow_chosen.Goals as goal
use Rattle.explore_core.proofs.tour.Tour.follow_chosen.Goals.{then-is_chosen+in_ok-turn+else-is_alone, else-is_chosen}

pub loop-client-init : goal.loop-client-init
loop-client-init c = record {
  advances = Advances-refl c.args.setup.now.plan.now c.args.setup.now.depth c.args.self.now;
  choice = refl;
  at = c.requires.at;
  followed = λ client few. absurd (omega (arith, few));
  onward = λ client few. absurd (omega (arith, few));
}

pub try_client-requires-clause-next : goal.try_client-requires-clause-next
try_client-requires-clause-next c = c.loop-client.invariant.advances.1.seen c.requires.next

pub try_client-requires-clause-at : goal.try_client-requires-clause-at
try_client-requires-clause-at c = c.loop-client.invariant.at

pub returns-in_err-turn-clause-advances : goal.returns-in_err-turn-clause-advances
returns-in_err-turn-clause-advances c = Advances-trans c.loop-client.invariant.advances c.try_client.ensures.advances

pub returns-then-is_alone-clause-advances : goal.returns-then-is_alone-clause-advances
returns-then-is_alone-clause-advances c = Advances-trans c.loop-client.invariant.advances c.try_client.ensures.advances

pub loop-client-preserved : goal.loop-client-preserved
loop-client-preserved c =
    let before = c.loop-client.invariant in
    let chosen = (choice_of c.args.self.now.choice).chosen in
    let here = standing_at c.args.setup.now.plan.now c.args.state.now in
    elim c.if-is_chosen.branch [
      | then-is_chosen+in_ok-turn+else-is_alone w ↦ rw w.self-is record {
        advances = Advances-trans before.advances w.try_client.ensures.advances;
        choice = w.try_client.ensures.choice ∙ before.choice;
        at = w.in_ok-turn.ensures.at;
        followed = (
            let one = w.try_client.ensures.advances in
            chosen-push here c.loop-client.client chosen before.followed one.0 one.1 w.in_ok-turn.ensures.tried.followed);
        onward = onward-push c.loop-client.client chosen _ before.onward w.in_ok-turn.ensures.tried (sym w.is_alone.ensures ∙ w.if-is_alone.false);
      }
      | else-is_chosen w ↦ rw w.self-is record {
        advances = before.advances;
        choice = before.choice;
        at = before.at;
        followed = chosen-skip here c.loop-client.client chosen before.followed
            (ap (λ (k : Choice). (choice_of k).chosen c.loop-client.client) (sym before.choice) ∙ sym c.is_chosen.ensures ∙ w.if-is_chosen.false);
        onward = onward-skip here c.loop-client.client chosen before.onward
            (ap (λ (k : Choice). (choice_of k).chosen c.loop-client.client) (sym before.choice) ∙ sym c.is_chosen.ensures ∙ w.if-is_chosen.false);
      }
    ]

pub returns-clause-onward : goal.returns-clause-onward
returns-clause-onward c = λ _.
    let plan = c.args.setup.now.plan.now in
    let clients : c.len-client-end.result ≡ length plan.clients = c.len-client-end.ensures ∙ c.plan.inside.clients.ok.0 ∙ clients-count plan _ (ap (λ (p : Lines). p.clients) c.plan.view_is) in
    onward-all plan (standing_at plan c.args.state.now) c.loop-client.client (choice_of c.args.self.now.choice).chosen (omega (arith, c.loop-client-test.false, clients)) c.loop-client.invariant.onward

pub returns-clause-followed : goal.returns-clause-followed
returns-clause-followed c = λ _.
    let plan = c.args.setup.now.plan.now in
    let clients : c.len-client-end.result ≡ length plan.clients = c.len-client-end.ensures ∙ c.plan.inside.clients.ok.0 ∙ clients-count plan _ (ap (λ (p : Lines). p.clients) c.plan.view_is) in
    chosen-all plan (standing_at plan c.args.state.now) c.loop-client.client (choice_of c.args.self.now.choice).chosen (omega (arith, c.loop-client-test.false, clients)) c.loop-client.invariant.followed
