use Rattle.std.proofs.Common.{map}
use Rattle.explore_report.specs.Cases.{judged_of}
use Rattle.explore_report.proofs.Places.{client_cases-next}
use Rattle.explore_report.proofs.case.push_clients.Goals as goal

pub loop-client-preserved : goal.loop-client-preserved
loop-client-preserved c =
    client_cases-next c.args.plan.now c.args.given.now c.loop-client.client (map judged_of c.args.cases.now.items) (map judged_of c.loop-client.cases.items) (map judged_of c.push_section.new.cases.items)
    c.loop-client.invariant c.in_ok-push_section.ensures.pushed
