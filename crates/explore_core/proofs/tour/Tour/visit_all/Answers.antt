use Rattle.std.proofs.Common.{take, subst, All}
use Rattle.std.proofs.lemmas.List.{take_all}
use Rattle.std.proofs.lemmas.List.Elements.{All-nil, All-weaker}
use Rattle.explore_core.specs.Levels.{IsVisited}
use Rattle.explore_core.specs.Search.{IsState, states_of}
use Rattle.explore_core.proofs.Levels.{Advances-refl, Advances-trans, IsVisited-grows}
use Rattle.explore_core.proofs.Finding.{All-item, All-next}
use Rattle.explore_core.proofs.tour.Tour.visit_all.Goals as goal

pub visit_state-requires-clause-state : goal.visit_state-requires-clause-state
visit_state-requires-clause-state c =
    let setup = c.args.setup.now in
    All-item (IsState setup.plan.now setup.depth) c.args.states.now c.loop-state.state-index c.state-item.result c.loop-state-test.true c.state-item.is c.requires.states

pub visit_state-requires-clause-next : goal.visit_state-requires-clause-next
visit_state-requires-clause-next c = c.loop-state.invariant.advances.1.seen c.requires.next

pub returns-in_err-visit_state-clause-advances : goal.returns-in_err-visit_state-clause-advances
returns-in_err-visit_state-clause-advances c = Advances-trans c.loop-state.invariant.advances c.visit_state.ensures.advances

pub loop-state-init : goal.loop-state-init
loop-state-init c =
    let setup = c.args.setup.now in
    let tour = c.args.self.now in
    record {
      advances = Advances-refl setup.plan.now setup.depth tour;
      visited = All-nil (IsVisited setup.plan.now tour.found (states_of tour.next.seen));
    }

pub loop-state-preserved : goal.loop-state-preserved
loop-state-preserved c =
    let plan = c.args.setup.now.plan.now in
    let before = c.loop-state.invariant in
    let one = c.visit_state.ensures.advances in
    let old = IsVisited plan c.loop-state.self.found (states_of c.loop-state.self.next.seen) in
    let new = IsVisited plan c.visit_state.new.self.found (states_of c.visit_state.new.self.next.seen) in
    let i = c.loop-state.state-index in
    record {
      advances = Advances-trans before.advances one;
      visited = All-next new c.args.states.now i c.state-item.result c.loop-state-test.true c.state-item.is
          (All-weaker old new (λ s v. IsVisited-grows s one.0 one.1 v) (take i c.args.states.now) before.visited)
          c.in_ok-visit_state.ensures.visited;
    }

pub returns-clause-visited : goal.returns-clause-visited
returns-clause-visited c =
    let all = take_all c.loop-state.state-index c.args.states.now c.loop-state-test.false in
    subst (All (IsVisited c.args.setup.now.plan.now c.loop-state.self.found (states_of c.loop-state.self.next.seen))) all c.loop-state.invariant.visited
