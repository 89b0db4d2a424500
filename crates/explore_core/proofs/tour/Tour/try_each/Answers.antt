use Rattle.std.proofs.Common.{◌+◌, ◌≡◌, length, subst, sym, ap, ◌∙◌, arith}
use Rattle.explore_core.specs.Schedule.{Lines}
use Rattle.explore_core.specs.Search.{AreTried, states_of}
use Rattle.explore_core.proofs.Levels.{Advances-refl, Advances-trans}
use Rattle.explore_core.proofs.Finding.{AreTried-none, AreTried-push}
use Rattle.explore_core.proofs.Trying.{AreTried-fewer, clients-count}
use Rattle.explore_core.proofs.tour.Tour.try_each.Goals as goal

pub try_client-requires-clause-next : goal.try_client-requires-clause-next
try_client-requires-clause-next c = c.loop-client.invariant.advances.1.seen c.requires.next

pub try_client-requires-clause-at : goal.try_client-requires-clause-at
try_client-requires-clause-at c = c.loop-client.invariant.at

pub returns-in_err-one-clause-advances : goal.returns-in_err-one-clause-advances
returns-in_err-one-clause-advances c = Advances-trans c.loop-client.invariant.advances c.try_client.ensures.advances

pub loop-client-init : goal.loop-client-init
loop-client-init c =
    let tour = c.args.self.now in
    let plan = c.args.setup.now.plan.now in
    record {
      advances = Advances-refl plan c.args.setup.now.depth tour;
      at = c.requires.at;
      tried = AreTried-none plan tour.found (states_of tour.next.seen) c.args.state.now;
    }

pub loop-client-preserved : goal.loop-client-preserved
loop-client-preserved c =
    let before = c.loop-client.invariant in
    let one = c.try_client.ensures.advances in
    let new = c.try_client.new.self in
    record {
      advances = Advances-trans before.advances one;
      at = c.in_ok-one.ensures.at;
      tried = subst (AreTried c.args.setup.now.plan.now new.found (states_of new.next.seen) c.args.state.now (c.loop-client.client + 1)) (sym c.together-moves.ensures)
          (AreTried-push before.tried one.0 one.1 c.in_ok-one.ensures.tried);
    }

pub returns-clause-tried : goal.returns-clause-tried
returns-clause-tried c =
    let plan = c.args.setup.now.plan.now in
    let clients : c.len-client-end.result ≡ length plan.clients = c.len-client-end.ensures ∙ c.plan.inside.clients.ok.0 ∙ clients-count plan _ (ap (λ (p : Lines). p.clients) c.plan.view_is) in
    AreTried-fewer (omega (arith, c.loop-client-test.false, clients)) c.loop-client.invariant.tried
