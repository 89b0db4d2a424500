use Rattle.std.proofs.Common.{◌≡◌, ◌<◌, ℕ, true}
use Rattle.explore_core.specs.Choice.{choice_of}
use Rattle.explore_core.specs.Search.{IsFollowed, IsOnward, IsVisitOf, standing_at, states_of}
use Rattle.explore_core.specs.Tour.{Advances}
use Rattle.explore_core.proofs.tour.Tour.follow_chosen.Given as goal

abbrev pub invariant-loop-client : goal.invariant-loop-client
invariant-loop-client l = record {
  advances : Advances l.setup.plan.now l.setup.depth l.initial.self l.self;
  choice : l.self.choice ≡ l.initial.self.choice;
  at : IsVisitOf l.self.visit (standing_at l.setup.plan.now l.state);
  followed : (client : ℕ) → client < l.client → (choice_of l.initial.self.choice).chosen client ≡ true →
      IsFollowed l.setup.plan.now l.self.found (states_of l.self.next.seen) (standing_at l.setup.plan.now l.state) client;
  onward : (client : ℕ) → client < l.client → (choice_of l.initial.self.choice).chosen client ≡ true → IsOnward l.setup.plan.now (standing_at l.setup.plan.now l.state) client;
}
