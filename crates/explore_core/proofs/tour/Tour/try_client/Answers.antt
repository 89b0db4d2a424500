use Rattle.std.proofs.Common.{refl, sym, ap, ◌∙◌, subst, List, ℕ, Option, option_copied}
use Rattle.std.specs.Prelude.{IsSome}
use Rattle.command_core.specs.declared.answer.Answer.{Answer}
use Rattle.explore_core.specs.declared.position.Position.{Position}
use Rattle.explore_core.specs.declared.visit.Visit.{Visit}
use Rattle.explore_core.specs.Schedule.{Schedule, ComesTo, MayGo}
use Rattle.explore_core.specs.Search.{IsAt, IsTurn, IsVisitOf, standing_at, standing_of, standing_after, states_of, stays}
use Rattle.explore_core.proofs.Levels.{Advances-refl}
use Rattle.explore_core.proofs.Trying.{next-here, tried-done, tried-held, tried-waits}
use Rattle.explore_core.proofs.Visiting.{IsAt-back, stays-here}
use Rattle.explore_core.proofs.tour.Tour.try_client.Goals as goal

pub returns-in_default-clause-advances : goal.returns-in_default-clause-advances
returns-in_default-clause-advances c = Advances-refl c.args.setup.now.plan.now c.args.setup.now.depth c.args.self.now

pub returns-in_default-clause-tried : goal.returns-in_default-clause-tried
returns-in_default-clause-tried c =
    let plan = c.args.setup.now.plan.now in
    let state = c.args.state.now in
    let next = next-here plan state c.args.client (c.as_slice.ensures.value ∙ c.requires.state.made) c.place_of-place.ensures (sym c.line_at.ensures ∙ ap option_copied c.in_default.is) in
    tried-done c.args.self.now.found (states_of c.args.self.now.next.seen) next.1

pub returns-then-not-may_go-clause-advances : goal.returns-then-not-may_go-clause-advances
returns-then-not-may_go-clause-advances c = Advances-refl c.args.setup.now.plan.now c.args.setup.now.depth c.args.self.now

pub returns-then-not-may_go-clause-tried : goal.returns-then-not-may_go-clause-tried
returns-then-not-may_go-clause-tried c =
    let plan = c.args.setup.now.plan.now in
    let state = c.args.state.now in
    let next = next-here plan state c.args.client (c.as_slice.ensures.value ∙ c.requires.state.made) c.place_of-place.ensures (sym c.line_at.ensures ∙ ap option_copied c.in-Some.is) in
    let held = subst (λ (made : List ℕ). MayGo plan made c.args.client → ⊥) (c.as_slice-2.ensures.value ∙ c.requires.state.made) (c.may_go.ensures.not c.if-not-may_go.true) in
    tried-held c.args.self.now.found (states_of c.args.self.now.next.seen) held (subst IsSome (sym next.1) refl)

pub come_back-requires : goal.come_back-requires
come_back-requires c =
    let plan = c.args.setup.now.plan.now in
    record { comes = subst (λ (s : Schedule). ComesTo plan s (standing_of plan s)) (sym c.as_slice-3.ensures.value) c.requires.state.comes }

pub returns-in_err-come_back-clause-advances : goal.returns-in_err-come_back-clause-advances
returns-in_err-come_back-clause-advances c = Advances-refl c.args.setup.now.plan.now c.args.setup.now.depth c.args.self.now

pub returns-in_err-made-clause-advances : goal.returns-in_err-made-clause-advances
returns-in_err-made-clause-advances c = Advances-refl c.args.setup.now.plan.now c.args.setup.now.depth c.args.self.now

pub returns-in_default-made-clause-advances : goal.returns-in_default-made-clause-advances
returns-in_default-made-clause-advances c = Advances-refl c.args.setup.now.plan.now c.args.setup.now.depth c.args.self.now

pub returns-in_default-made-clause-tried : goal.returns-in_default-made-clause-tried
returns-in_default-made-clause-tried c =
    let plan = c.args.setup.now.plan.now in
    let state = c.args.state.now in
    let at = subst (λ (s : Schedule). IsVisitOf c.args.self.now.visit (standing_of plan s) → IsAt c.come_back.new.self.position (standing_of plan s)) c.as_slice-3.ensures.value c.in_ok-come_back.ensures.at c.requires.at in
    let next = next-here plan state c.args.client (c.as_slice.ensures.value ∙ c.requires.state.made) c.place_of-place.ensures (sym c.line_at.ensures ∙ ap option_copied c.in-Some.is) in
    let turn = c.in_ok-made.ensures.made plan (standing_at plan state) at next.0 next.1 in
    let waits = subst (λ (o : Option Answer). IsTurn plan (standing_at plan state) c.args.client c.place_of-place.result o c.go.new.self) c.in_default-made.is turn in
    tried-waits c.args.self.now.found (states_of c.args.self.now.next.seen) waits.0 waits.1

pub returns-in_default-made-clause-at : goal.returns-in_default-made-clause-at
returns-in_default-made-clause-at c = λ fresh.
    let plan = c.args.setup.now.plan.now in
    let state = c.args.state.now in
    let at = subst (λ (s : Schedule). IsVisitOf c.args.self.now.visit (standing_of plan s) → IsAt c.come_back.new.self.position (standing_of plan s)) c.as_slice-3.ensures.value c.in_ok-come_back.ensures.at c.requires.at in
    let next = next-here plan state c.args.client (c.as_slice.ensures.value ∙ c.requires.state.made) c.place_of-place.ensures (sym c.line_at.ensures ∙ ap option_copied c.in-Some.is) in
    let turn = c.in_ok-made.ensures.made plan (standing_at plan state) at next.0 next.1 in
    let waits = subst (λ (o : Option Answer). IsTurn plan (standing_at plan state) c.args.client c.place_of-place.result o c.go.new.self) c.in_default-made.is turn in
    waits.2

pub follow_line-requires-clause-may : goal.follow_line-requires-clause-may
follow_line-requires-clause-may c =
    let plan = c.args.setup.now.plan.now in
    subst (λ (made : List ℕ). MayGo plan made c.args.client) (c.as_slice-2.ensures.value ∙ c.requires.state.made) (c.may_go.ensures.may c.if-not-may_go.false)

pub follow_line-requires-clause-line : goal.follow_line-requires-clause-line
follow_line-requires-clause-line c =
    let plan = c.args.setup.now.plan.now in
    let state = c.args.state.now in
    let next = next-here plan state c.args.client (c.as_slice.ensures.value ∙ c.requires.state.made) c.place_of-place.ensures (sym c.line_at.ensures ∙ ap option_copied c.in-Some.is) in
    next.1

pub follow_line-requires-clause-answers : goal.follow_line-requires-clause-answers
follow_line-requires-clause-answers c =
    let plan = c.args.setup.now.plan.now in
    let state = c.args.state.now in
    let at = subst (λ (s : Schedule). IsVisitOf c.args.self.now.visit (standing_of plan s) → IsAt c.come_back.new.self.position (standing_of plan s)) c.as_slice-3.ensures.value c.in_ok-come_back.ensures.at c.requires.at in
    let next = next-here plan state c.args.client (c.as_slice.ensures.value ∙ c.requires.state.made) c.place_of-place.ensures (sym c.line_at.ensures ∙ ap option_copied c.in-Some.is) in
    let turn = c.in_ok-made.ensures.made plan (standing_at plan state) at next.0 next.1 in
    let made = subst (λ (o : Option Answer). IsTurn plan (standing_at plan state) c.args.client c.place_of-place.result o c.go.new.self) c.in-Some-made.is turn in
    made.0

pub follow_line-requires-clause-at : goal.follow_line-requires-clause-at
follow_line-requires-clause-at c =
    let plan = c.args.setup.now.plan.now in
    let state = c.args.state.now in
    let at = subst (λ (s : Schedule). IsVisitOf c.args.self.now.visit (standing_of plan s) → IsAt c.come_back.new.self.position (standing_of plan s)) c.as_slice-3.ensures.value c.in_ok-come_back.ensures.at c.requires.at in
    let next = next-here plan state c.args.client (c.as_slice.ensures.value ∙ c.requires.state.made) c.place_of-place.ensures (sym c.line_at.ensures ∙ ap option_copied c.in-Some.is) in
    let turn = c.in_ok-made.ensures.made plan (standing_at plan state) at next.0 next.1 in
    let made = subst (λ (o : Option Answer). IsTurn plan (standing_at plan state) c.args.client c.place_of-place.result o c.go.new.self) c.in-Some-made.is turn in
    let there = subst (λ (p : Position). IsAt p (standing_after plan (standing_at plan state) c.args.client)) (sym c.note.ensures.position) made.1 in
    there

pub returns-clause-at : goal.returns-clause-at
returns-clause-at c = λ fresh.
    let plan = c.args.setup.now.plan.now in
    let state = c.args.state.now in
    let at = subst (λ (s : Schedule). IsVisitOf c.args.self.now.visit (standing_of plan s) → IsAt c.come_back.new.self.position (standing_of plan s)) c.as_slice-3.ensures.value c.in_ok-come_back.ensures.at c.requires.at in
    let next = next-here plan state c.args.client (c.as_slice.ensures.value ∙ c.requires.state.made) c.place_of-place.ensures (sym c.line_at.ensures ∙ ap option_copied c.in-Some.is) in
    let turn = c.in_ok-made.ensures.made plan (standing_at plan state) at next.0 next.1 in
    let made = subst (λ (o : Option Answer). IsTurn plan (standing_at plan state) c.args.client c.place_of-place.result o c.go.new.self) c.in-Some-made.is turn in
    let there = subst (λ (p : Position). IsAt p (standing_after plan (standing_at plan state) c.args.client)) (sym c.note.ensures.position) made.1 in
    let kept = c.follow_line.ensures.visit in
    let still = subst (λ (v : Visit). IsAt v.position (standing_after plan (standing_at plan state) c.args.client)) (sym kept) there in
    IsAt-back plan (standing_at plan state) c.args.client c.place_of-place.result c.in-Some-made.answer c.follow_line.new.self.visit.position c.count_to.new.self at.desk.accepted made.0 c.in-Some.step.now next.1
    (stays-here (stays c.in-Some.step.now.command c.in-Some-made.answer) (sym c.note.ensures.left ∙ ap (λ (v : Visit). v.has_left) (sym kept) ∙ fresh)) still c.count_to.ensures.desk c.count_to.ensures.made
