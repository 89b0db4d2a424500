use Rattle.explore_report.proofs.Scheduled.{case-made}
use Rattle.explore_report.proofs.case.Case.make.Goals as goal

pub returns : goal.returns
returns c = record {
  made = case-made c.args.plan.now.plan c.args.self.now.schedule.items c.as_slice.result.now c.push_own.new.self _ c.section_of.result
      c.as_slice.ensures.value c.section_of.ensures (c.in_ok-push_own.ensures.own _ _ c.in_ok-follow.ensures.follows);
}
