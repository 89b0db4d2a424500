use Rattle.explore_core.specs.Search.{AreTried, IsVisitOf, standing_at, states_of}
use Rattle.explore_core.specs.Tour.{Advances}
use Rattle.explore_core.proofs.tour.Tour.try_each.Given as goal

abbrev pub invariant-loop-client : goal.invariant-loop-client
invariant-loop-client l = record {
  advances : Advances l.setup.plan.now l.setup.depth l.initial.self l.self;
  at : IsVisitOf l.self.visit (standing_at l.setup.plan.now l.state);
  tried : AreTried l.setup.plan.now l.self.found (states_of l.self.next.seen) l.state l.client l.moves;
}
