use Rattle.std.proofs.Common.{◌≡◌, ◌++◌, drop, map}
use Rattle.explore_report.specs.Cases.{by_place, first_case, judged_of}
use Rattle.explore_report.proofs.case.push_answers.Given as goal

abbrev pub invariant-loop-place : goal.invariant-loop-place
invariant-loop-place l =
    map judged_of l.cases.items ++ by_place (first_case l.plan l.rows) l.place (drop l.place l.answers)
    ≡ map judged_of l.fn.cases.items ++ by_place (first_case l.plan l.rows) 0 l.answers
