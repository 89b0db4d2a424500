use Rattle.std.proofs.Common.{All, take}
use Rattle.explore_core.specs.Levels.{IsVisited}
use Rattle.explore_core.specs.Search.{states_of}
use Rattle.explore_core.specs.Tour.{Advances}
use Rattle.explore_core.proofs.tour.Tour.visit_all.Given as goal

abbrev pub invariant-loop-state : goal.invariant-loop-state
invariant-loop-state l = record {
  advances : Advances l.setup.plan.now l.setup.depth l.initial.self l.self;
  visited : All (IsVisited l.setup.plan.now l.self.found (states_of l.self.next.seen)) (take l.state-index l.states);
}
