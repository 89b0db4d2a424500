use Rattle.std.proofs.Common.{◌∙◌, refl, ap}
use Rattle.explore_core.specs.Schedule.{place_after}
use Rattle.explore_report.proofs.Scheduled.{made-one}
use Rattle.explore_report.proofs.schedule.Making.make_line.Goals as goal

pub returns : goal.returns
returns c = record {
  made = λ commands now has.
      made-one commands now c.args.self.now _ c.args.step.now.command c.in_ok-answer.answer has c.in_ok-answer.ensures.made refl c.in_ok-push.ensures.items;
  next = λ commands now has.
      c.in-Ok.ensures.next ∙ ap (place_after c.args.step.now c.args.place) (c.in_ok-answer.ensures.made now.history has.desk).0;
}
