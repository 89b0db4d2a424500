use Rattle.std.proofs.Common.{◌≡◌, ◌++◌, drop, map}
use Rattle.explore_report.specs.Cases.{by_place, judged_of, line_cases}
use Rattle.explore_report.proofs.case.push_lines.Given as goal

abbrev pub invariant-loop-place : goal.invariant-loop-place
invariant-loop-place l =
    map judged_of l.cases.items ++ by_place (line_cases l.plan l.given l.client) l.place (drop l.place l.rows)
    ≡ map judged_of l.fn.cases.items ++ by_place (line_cases l.plan l.given l.client) 0 l.rows
