use Rattle.std.proofs.Common.{sym, ap, ◌∙◌, subst}
use Rattle.explore_core.specs.Schedule.{Schedule, ComesTo}
use Rattle.explore_core.specs.Search.{IsAt, has_name, standing_at, standing_of}
use Rattle.explore_core.proofs.Levels.{Advances-refl, Advances-trans}
use Rattle.explore_core.proofs.Finding.{IsLeft-chosen}
use Rattle.explore_core.proofs.tour.Tour.follow_enough.Goals as goal

pub come_back-requires : goal.come_back-requires
come_back-requires c =
    let plan = c.args.setup.now.plan.now in
    record { comes = subst (λ (s : Schedule). ComesTo plan s (standing_of plan s)) (sym c.as_slice.ensures.value) c.requires.state.comes }

pub choose-requires : goal.choose-requires
choose-requires c = record { asked = λ name. ap (λ names. has_name names name) c.as_slice-2.ensures.value ∙ c.requires.setup.asked name }

pub returns-in_err-come_back-clause-advances : goal.returns-in_err-come_back-clause-advances
returns-in_err-come_back-clause-advances c = Advances-refl c.args.setup.now.plan.now c.args.setup.now.depth c.args.self.now

pub returns-in_err-is_enough-clause-advances : goal.returns-in_err-is_enough-clause-advances
returns-in_err-is_enough-clause-advances c = Advances-refl c.args.setup.now.plan.now c.args.setup.now.depth c.args.self.now

pub follow_chosen-requires-clause-at : goal.follow_chosen-requires-clause-at
follow_chosen-requires-clause-at c = λ fresh.
    let plan = c.args.setup.now.plan.now in
    subst (λ (s : Schedule). IsAt c.come_back.new.self.position (standing_of plan s)) c.as_slice.ensures.value (c.in_ok-come_back.ensures.at (c.leave.ensures (standing_of plan c.as_slice.result.now)))

pub follow_all-requires-clause-at : goal.follow_all-requires-clause-at
follow_all-requires-clause-at c = λ fresh.
    let plan = c.args.setup.now.plan.now in
    subst (λ (s : Schedule). IsAt c.come_back.new.self.position (standing_of plan s)) c.as_slice.ensures.value (c.in_ok-come_back.ensures.at (c.leave.ensures (standing_of plan c.as_slice.result.now)))

pub returns-then-branch-clause-left : goal.returns-then-branch-clause-left
returns-then-branch-clause-left c =
    let plan = c.args.setup.now.plan.now in
    let state = c.args.state.now in
    let at = subst (λ (s : Schedule). IsAt c.come_back.new.self.position (standing_of plan s)) c.as_slice.ensures.value (c.in_ok-come_back.ensures.at (c.leave.ensures (standing_of plan c.as_slice.result.now))) in
    let enough = c.in_ok-follow_chosen.ensures in
    IsLeft-chosen {chooser = c.args.setup.now.chooser} state c.requires.state c.requires.setup.ready (c.in_ok-is_enough.ensures.enough c.if-not-is_enough.false (standing_at plan state) at)
    (enough.followed c.if-branch.true) (enough.onward c.if-branch.true)

pub returns-clause-advances : goal.returns-clause-advances
returns-clause-advances c = Advances-trans c.follow_chosen.ensures.advances c.follow_all-2.ensures.advances
