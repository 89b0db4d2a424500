use Rattle.std.proofs.Common.{◌∙◌, refl, sym, ap, get_or, slice_get, Vec, Global}
use Rattle.std.specs.Prelude.{option_copied}
use Rattle.command_core.specs.declared.answer.Answer.{Answer}
use Rattle.explore_core.specs.Schedule.{answer_now, lines_of, place_after}
use Rattle.explore_report.proofs.Scheduled.{line-none, line-some, made-same}
use Rattle.explore_report.proofs.schedule.Making.push_line.Goals as goal

pub returns-in_default : goal.returns-in_default
returns-in_default c = record {
  line = λ commands now has.
      let plan = c.args.plan.now.plan in
      let none = ap (λ ps. slice_get (lines_of plan c.args.client) (get_or ps c.args.client 0)) (sym has.made ∙ sym c.as_slice.ensures.value)
      ∙ sym (ap (slice_get (lines_of plan c.args.client)) c.place_of-place.ensures) ∙ sym c.in_default.ensures in
      line-none plan commands now c.args.client c.args.self.now none has;
}

pub returns : goal.returns
returns c = record {
  line = λ commands now has.
      let plan = c.args.plan.now.plan in
      let step = c.in-Some.step.now in
      let here = c.place_of-place.ensures ∙ ap (λ ps. get_or ps c.args.client 0) (c.as_slice.ensures.value ∙ has.made) in
      let some = sym (ap (slice_get (lines_of plan c.args.client)) here) ∙ sym c.line_at.ensures ∙ ap option_copied c.in-Some.is in
      let before = made-same commands now c.args.self.now _ has refl refl refl in
      line-some plan commands now c.args.client c.in_ok-next.next step c.make_line.new.self c.count_to.new.self some (c.in_ok-next.ensures.made commands now before)
      (c.in_ok-next.ensures.next commands now before ∙ ap (λ place. place_after step place (answer_now now.history step.command)) here)
      c.count_to.ensures.desk (ap (λ (v : Vec Answer Global). v.items) c.count_to.ensures.answers) c.count_to.ensures.made;
}
