use Rattle.std.proofs.Common.{sym, ap, ◌∙◌, subst, get_or, set, slice_get, option_copied}
use Rattle.desk_core.specs.theorem.Desk.{HasHistory}
use Rattle.explore_core.specs.Schedule.{answer_now, history_with, lines_of, place_after}
use Rattle.explore_core.proofs.Replaying.{IsAt-again, no-line}
use Rattle.explore_core.proofs.position.Position.go_again.Goals as goal

pub returns-in_default : goal.returns-in_default
returns-in_default c = record {
  after = λ now next at goes.
      let plan = c.args.plan.now in
      let none = ap (λ ps. slice_get (lines_of plan c.args.client) (get_or ps c.args.client 0)) (sym at.made ∙ sym c.as_slice.ensures.value)
      ∙ sym (ap (slice_get (lines_of plan c.args.client)) c.place_of-place.ensures) ∙ sym c.line_at.ensures ∙ ap option_copied c.in_default.is in
      absurd (no-line plan now next c.args.client none goes);
}

pub returns : goal.returns
returns c = record {
  after = λ now next at goes.
      let plan = c.args.plan.now in
      let line = ap (λ ps. slice_get (lines_of plan c.args.client) (get_or ps c.args.client 0)) (sym at.made ∙ sym c.as_slice.ensures.value)
      ∙ sym (ap (slice_get (lines_of plan c.args.client)) c.place_of-place.ensures) ∙ sym c.line_at.ensures ∙ ap option_copied c.in-Some.is in
      let step = c.in-Some.step.now in
      let along = c.in_ok-next.ensures.along now.history at.desk in
      let desk = subst (λ desk. HasHistory desk (history_with now.history step.command)) (sym c.count_to.ensures.desk) along in
      let here = c.place_of-place.ensures ∙ ap (λ ps. get_or ps c.args.client 0) c.as_slice.ensures.value in
      let old = c.args.self.now.made.items in
      let made = c.count_to.ensures.made ∙ ap (set old c.args.client) (c.in_ok-next.ensures.next now.history at.desk) ∙ ap (λ n. set old c.args.client (place_after step n (answer_now now.history step.command))) here in
      IsAt-again plan now next c.args.client step c.args.self.now _ at line goes desk made;
}
