use Rattle.std.proofs.Common.{◌≤◌, length, sym, ap, ◌∙◌, subst}
use Rattle.explore_core.specs.Search.{LevelState, states_of}
use Rattle.explore_core.proofs.Parting.{kept-states}
use Rattle.explore_core.proofs.level.Level.into_states.Goals as goal

pub returns-clause-states : goal.returns-clause-states
returns-clause-states c =
    sym (kept-states c.self.inside.parts c.self.inside.states.items c.self.inside.places.items c.self.invariant.0)
    ∙ ap (λ (l : LevelState). states_of l.seen) c.self.view_is

pub returns-clause-room : goal.returns-clause-room
returns-clause-room c = subst (λ (l : LevelState). length c.self.inside.states.items ≤ l.room) c.self.view_is c.self.invariant.2
