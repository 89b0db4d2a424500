use Rattle.std.proofs.Common.{refl}
use Rattle.explore_report.proofs.Scheduled.{made-one}
use Rattle.explore_report.proofs.schedule.Making.make.Goals as goal

pub returns : goal.returns
returns c = record {
  made = λ commands now has.
      made-one commands now c.args.self.now _ c.args.command c.in_ok-answer.answer has c.in_ok-answer.ensures.made refl c.in_ok-push.ensures.items;
}
