use Rattle.std.proofs.Common.{◌≡◌, ◌+◌, List, ℕ, false, sym, ap, ◌∙◌, subst}
use Rattle.explore_core.specs.declared.found.Found.{Found}
use Rattle.explore_core.specs.declared.visit.Visit.{Visit}
use Rattle.explore_core.specs.Found.{Lists}
use Rattle.explore_core.specs.Schedule.{is_in_block}
use Rattle.explore_core.specs.Search.{Extends, standing_after, standing_at, states_of}
use Rattle.explore_core.proofs.Levels.{Extends-refl}
use Rattle.explore_core.proofs.Trying.{expected-here, made-goes, tried-ended, tried-inside, tried-made}
use Rattle.explore_core.proofs.tour.Tour.follow_line.Goals as goal

pub returns-in_err-list_answer-clause-advances : goal.returns-in_err-list_answer-clause-advances
returns-in_err-list_answer-clause-advances c =
    let plan = c.args.setup.now.plan.now in
    let deeper = c.args.setup.now.depth + 1 in
    (c.list_answer.ensures.grows, subst (Extends plan deeper c.args.self.now.next) (sym c.list_answer.ensures.next) (Extends-refl plan deeper c.args.self.now.next))

pub returns-then-not-branch-clause-advances : goal.returns-then-not-branch-clause-advances
returns-then-not-branch-clause-advances c =
    let plan = c.args.setup.now.plan.now in
    let deeper = c.args.setup.now.depth + 1 in
    (c.list_answer.ensures.grows, subst (Extends plan deeper c.args.self.now.next) (sym c.list_answer.ensures.next) (Extends-refl plan deeper c.args.self.now.next))

pub returns-then-not-branch-clause-tried : goal.returns-then-not-branch-clause-tried
returns-then-not-branch-clause-tried c =
    let plan = c.args.setup.now.plan.now in
    let tour = c.list_answer.new.self in
    tried-ended plan c.args.state.now c.requires.answers c.args.step.now c.requires.line tour.found (states_of tour.next.seen) c.requires.may c.in_ok-list_answer.ensures.lists
    (sym c.in_ok-list_answer.ensures.expected ∙ c.if-not-branch.true)

pub keep_after-requires-clause-on : goal.keep_after-requires-clause-on
keep_after-requires-clause-on c = record {
  may = c.requires.may;
  expected = expected-here c.args.setup.now.plan.now c.args.state.now c.requires.answers c.args.step.now c.requires.line (sym c.in_ok-list_answer.ensures.expected ∙ c.if-not-branch.false);
}

pub keep_after-requires-clause-goes : goal.keep_after-requires-clause-goes
keep_after-requires-clause-goes c = made-goes c.args.setup.now.plan.now c.args.state.now c.requires.answers

pub returns-then-is_in_block-clause-tried : goal.returns-then-is_in_block-clause-tried
returns-then-is_in_block-clause-tried c =
    let plan = c.args.setup.now.plan.now in
    let tour = c.keep_after.new.self in
    let lists = subst (λ (f : Found). Lists f.given.items c.args.client c.args.place c.args.answer) (sym c.keep_after.ensures.found) c.in_ok-list_answer.ensures.lists in
    tried-inside plan c.args.state.now c.requires.answers c.args.step.now c.requires.line tour.found (states_of tour.next.seen) c.requires.may lists c.in_ok-keep_after.ensures.kept

pub returns-clause-tried : goal.returns-clause-tried
returns-clause-tried c =
    let plan = c.args.setup.now.plan.now in
    let state = c.args.state.now in
    let tour = c.keep_after.new.self in
    let later = standing_after plan (standing_at plan state) c.args.client in
    let lists = subst (λ (f : Found). Lists f.given.items c.args.client c.args.place c.args.answer) (sym c.keep_after.ensures.found) c.in_ok-list_answer.ensures.lists in
    let made : c.as_slice.result.now ≡ later.made =
    c.as_slice.ensures.value ∙ ap (λ (v : Visit). v.position.made.items) (c.keep_after.ensures.visit ∙ c.list_answer.ensures.visit) ∙ c.requires.at.made in
    tried-made plan state c.requires.answers c.args.step.now c.requires.line tour.found (states_of tour.next.seen) c.requires.may lists c.in_ok-keep_after.ensures.kept
    (sym c.in_ok-list_answer.ensures.expected ∙ c.if-not-branch.false)
    (subst (λ (ps : List ℕ). is_in_block plan ps c.args.client ≡ false) made (sym c.is_in_block.ensures ∙ c.if-is_in_block.false))
