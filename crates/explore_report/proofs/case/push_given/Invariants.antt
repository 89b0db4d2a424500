use Rattle.std.proofs.Common.{◌≡◌, ◌++◌, map, take}
use Rattle.std.specs.List.{flat_map}
use Rattle.explore_report.specs.Cases.{case_at, judged_of}
use Rattle.explore_report.proofs.case.push_given.Given as goal

abbrev pub invariant-loop-one : goal.invariant-loop-one
invariant-loop-one l =
    map judged_of l.cases.items
    ≡ map judged_of l.fn.cases.items ++ flat_map (case_at l.plan l.client l.place l.index) (take l.one-index l.given)
