use Rattle.std.proofs.Common.{refl, sym, ap, ◌∙◌, subst, length}
use Rattle.explore_core.specs.Schedule.{Schedule, ComesTo}
use Rattle.explore_core.specs.Search.{standing_at}
use Rattle.explore_core.proofs.Levels.{Advances-found, Advances-refl}
use Rattle.explore_core.proofs.Finding.{Grows-stuck}
use Rattle.explore_core.proofs.Trying.{some-stuck, not-stuck}
use Rattle.explore_core.proofs.tour.Tour.show_stuck.Goals as goal

pub returns-then-is_some-clause-advances : goal.returns-then-is_some-clause-advances
returns-then-is_some-clause-advances c = Advances-refl c.args.setup.now.plan.now c.args.setup.now.depth c.args.self.now

pub returns-then-is_some-clause-shown : goal.returns-then-is_some-clause-shown
returns-then-is_some-clause-shown c = some-stuck c.args.self.now.found.stuck (sym c.is_some.ensures ∙ c.if-is_some.true)

pub returns-in_err-schedule-clause-advances : goal.returns-in_err-schedule-clause-advances
returns-in_err-schedule-clause-advances c = Advances-refl c.args.setup.now.plan.now c.args.setup.now.depth c.args.self.now

pub returns-clause-advances : goal.returns-clause-advances
returns-clause-advances c =
    let plan = c.args.setup.now.plan.now in
    let state = c.args.state.now in
    let old = c.args.self.now in
    let is = c.in_ok-schedule.ensures.shown ∙ c.as_slice.ensures.value in
    Advances-found old.next
    (Grows-stuck plan c.args.setup.now.depth old.found _ c.in_ok-schedule.schedule (standing_at plan state) (not-stuck old.found.stuck (sym c.is_some.ensures ∙ c.if-is_some.false)) refl refl refl refl refl refl
    (subst (λ (s : Schedule). ComesTo plan s (standing_at plan state)) (sym is) c.requires.state.comes) c.requires.stuck (ap length is ∙ c.requires.state.deep))

pub returns-clause-shown : goal.returns-clause-shown
returns-clause-shown c = (c.in_ok-schedule.schedule.items, refl)
