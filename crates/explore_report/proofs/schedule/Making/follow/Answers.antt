use Rattle.std.proofs.Common.{[]}
use Rattle.explore_core.specs.Schedule.{beginning}
use Rattle.explore_report.specs.Making.{fresh}
use Rattle.explore_report.proofs.Scheduled.{first-made}
use Rattle.explore_report.proofs.schedule.Making.follow.Goals as goal

pub returns : goal.returns
returns c =
    let plan = c.args.plan.now.plan in
    let first = c.in_ok-push_first.ensures.first [] (fresh c.client_count.result) c.in_ok-clear.ensures.cleared in
    record {
      follows = c.in_ok-push_lines.ensures.lines plan.first (beginning plan)
          (first-made plan c.client_count.result c.push_first.new.self c.client_count.ensures.count first);
    }
