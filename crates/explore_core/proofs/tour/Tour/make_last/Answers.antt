use Rattle.std.proofs.Common.{refl, sym, subst}
use Rattle.explore_core.specs.Schedule.{Schedule, ComesTo}
use Rattle.explore_core.specs.Search.{IsAt, standing_of, standing_at}
use Rattle.explore_core.proofs.Levels.{Advances-found, Advances-refl}
use Rattle.explore_core.proofs.Finding.{Grows-ended, HasEnds-listed}
use Rattle.explore_core.proofs.tour.Tour.make_last.Goals as goal

pub restart-requires : goal.restart-requires
restart-requires c =
    let plan = c.args.setup.now.plan.now in
    record { comes = subst (λ (s : Schedule). ComesTo plan s (standing_of plan s)) (sym c.as_slice-schedule.ensures.value) c.requires.state.comes }

pub returns-in_err-restart-clause-advances : goal.returns-in_err-restart-clause-advances
returns-in_err-restart-clause-advances c = Advances-refl c.args.setup.now.plan.now c.args.setup.now.depth c.args.self.now

pub returns-in_err-answer_last-clause-advances : goal.returns-in_err-answer_last-clause-advances
returns-in_err-answer_last-clause-advances c =
    let plan = c.args.setup.now.plan.now in
    let here = standing_at plan c.args.state.now in
    let is = c.as_slice-schedule.ensures.value in
    let at = subst (λ (s : Schedule). IsAt c.restart.new.self (standing_of plan s)) is c.in_ok-restart.ensures.at in
    let comes = subst (λ (s : Schedule). ComesTo plan s here) (sym is) c.requires.state.comes in
    Advances-found c.args.self.now.next
    (Grows-ended plan c.args.setup.now.depth c.args.self.now.found _ here c.as_slice-schedule.result.now (c.answer_last.ensures.records here.history at.desk) comes c.requires.done refl refl refl refl refl)

pub returns-clause-advances : goal.returns-clause-advances
returns-clause-advances c =
    let plan = c.args.setup.now.plan.now in
    let here = standing_at plan c.args.state.now in
    let is = c.as_slice-schedule.ensures.value in
    let at = subst (λ (s : Schedule). IsAt c.restart.new.self (standing_of plan s)) is c.in_ok-restart.ensures.at in
    let comes = subst (λ (s : Schedule). ComesTo plan s here) (sym is) c.requires.state.comes in
    Advances-found c.args.self.now.next
    (Grows-ended plan c.args.setup.now.depth c.args.self.now.found _ here c.as_slice-schedule.result.now (c.answer_last.ensures.records here.history at.desk) comes c.requires.done refl refl refl refl refl)

pub returns-clause-ended : goal.returns-clause-ended
returns-clause-ended c =
    let plan = c.args.setup.now.plan.now in
    let here = standing_at plan c.args.state.now in
    let at = subst (λ (s : Schedule). IsAt c.restart.new.self (standing_of plan s)) c.as_slice-schedule.ensures.value c.in_ok-restart.ensures.at in
    HasEnds-listed plan (record c.args.self.now.found { ended = c.answer_last.new.ended }) here (c.in_ok-answer_last.ensures.lists here.history at.desk)
