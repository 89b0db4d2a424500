use Rattle.std.proofs.Common.{◌+◌, All, sym, ap, ◌∙◌, subst, arith}
use Rattle.explore_core.specs.declared.found.Found.{Found}
use Rattle.explore_core.specs.Levels.{IsVisited}
use Rattle.explore_core.specs.Search.{LevelState, Grows, IsState, states_of}
use Rattle.explore_core.proofs.Finding.{All-states}
use Rattle.explore_core.proofs.Trying.{none-seen-yet}
use Rattle.explore_core.proofs.tour.Tour.visit_level.Goals as goal

pub count-room-requires : goal.count-room-requires
count-room-requires c = record { within = c.requires.within }

pub visit_all-requires-clause-next : goal.visit_all-requires-clause-next
visit_all-requires-clause-next c = none-seen-yet c.args.setup.now.plan.now (c.args.setup.now.depth + 1) _ c.new.ensures.empty

pub returns-in_err-visit_all-clause-grows : goal.returns-in_err-visit_all-clause-grows
returns-in_err-visit_all-clause-grows c =
    subst (λ (f : Found). Grows c.args.setup.now.plan.now c.args.setup.now.depth f c.visit_all.new.self.found) c.count-room.ensures.counted c.visit_all.ensures.advances.0

pub returns-clause-grows : goal.returns-clause-grows
returns-clause-grows c =
    subst (λ (f : Found). Grows c.args.setup.now.plan.now c.args.setup.now.depth f c.visit_all.new.self.found) c.count-room.ensures.counted c.visit_all.ensures.advances.0

pub returns-clause-within : goal.returns-clause-within
returns-clause-within c =
    let advances = c.visit_all.ensures.advances in
    let few = c.into_states.ensures.room in
    let room = ap (λ (l : LevelState). l.room) c.replace-next.ensures.value in
    omega (arith, c.count-room.ensures.room, advances.0.states, few, room, advances.1.room, c.new.ensures.room)

pub returns-clause-next : goal.returns-clause-next
returns-clause-next c =
    let plan = c.args.setup.now.plan.now in
    let depth = c.args.setup.now.depth + 1 in
    let seen = c.visit_all.ensures.advances.1.seen (none-seen-yet plan depth _ c.new.ensures.empty) in
    let is = c.into_states.ensures.states ∙ ap (λ (l : LevelState). states_of l.seen) c.replace-next.ensures.value in
    subst (All (IsState plan depth)) (sym is) (All-states plan depth c.visit_all.new.self.next.seen seen)

pub returns-clause-visited : goal.returns-clause-visited
returns-clause-visited c =
    let is = c.into_states.ensures.states ∙ ap (λ (l : LevelState). states_of l.seen) c.replace-next.ensures.value in
    subst (λ next. All (IsVisited c.args.setup.now.plan.now c.visit_all.new.self.found next) c.args.states.now) (sym is) c.in_ok-visit_all.ensures.visited
