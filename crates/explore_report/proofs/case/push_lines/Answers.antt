use Rattle.std.proofs.Common.{map}
use Rattle.explore_report.specs.Cases.{judged_of, line_cases}
use Rattle.explore_report.proofs.Places.{by_place-end, by_place-next}
use Rattle.explore_report.proofs.case.push_lines.Goals as goal

pub loop-place-preserved : goal.loop-place-preserved
loop-place-preserved c =
    by_place-next (line_cases c.args.plan.now c.args.given.now c.args.client) c.args.rows.now c.loop-place.place _ (map judged_of c.loop-place.cases.items) (map judged_of c.push_given.new.cases.items) _
    c.loop-place-test.true c.in_ok-push_given.ensures.pushed c.loop-place.invariant

pub returns : goal.returns
returns c = record {
  pushed = by_place-end (line_cases c.args.plan.now c.args.given.now c.args.client) c.args.rows.now c.loop-place.place (map judged_of c.loop-place.cases.items) _
      c.loop-place-test.false c.loop-place.invariant;
}
