use Rattle.std.proofs.Common.{◌≡◌, ◌++◌, map}
use Rattle.explore_report.specs.Cases.{client_cases, judged_of}
use Rattle.explore_report.proofs.case.push_clients.Given as goal

abbrev pub invariant-loop-client : goal.invariant-loop-client
invariant-loop-client l = map judged_of l.cases.items ≡ map judged_of l.fn.cases.items ++ client_cases l.plan l.given l.client
