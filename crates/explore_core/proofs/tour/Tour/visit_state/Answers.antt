use Rattle.explore_core.specs.Search.{standing_at}
use Rattle.explore_core.proofs.Levels.{Advances-found, Advances-trans, HasRaces-grows}
use Rattle.explore_core.proofs.tour.Tour.visit_state.Goals as goal

pub returns-in_err-list_races-clause-advances : goal.returns-in_err-list_races-clause-advances
returns-in_err-list_races-clause-advances c = Advances-found c.args.self.now.next c.list_races.ensures.grows

pub returns-in_err-follow_enough-clause-advances : goal.returns-in_err-follow_enough-clause-advances
returns-in_err-follow_enough-clause-advances c = Advances-trans (Advances-found c.args.self.now.next c.list_races.ensures.grows) c.follow_enough.ensures.advances

pub returns-clause-advances : goal.returns-clause-advances
returns-clause-advances c = Advances-trans (Advances-found c.args.self.now.next c.list_races.ensures.grows) c.follow_enough.ensures.advances

pub returns-clause-visited : goal.returns-clause-visited
returns-clause-visited c = record {
  races = HasRaces-grows (standing_at c.args.setup.now.plan.now c.args.state.now) c.follow_enough.ensures.advances.0 c.in_ok-list_races.ensures.lists;
  left = c.in_ok-follow_enough.ensures.left;
}
