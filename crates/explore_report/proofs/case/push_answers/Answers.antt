use Rattle.std.proofs.Common.{map}
use Rattle.explore_report.specs.Cases.{first_case, judged_of}
use Rattle.explore_report.proofs.Places.{by_place-end, by_place-step}
use Rattle.explore_report.proofs.case.push_answers.Goals as goal

pub loop-place-preserved : goal.loop-place-preserved
loop-place-preserved c =
    by_place-step (first_case c.args.plan.now c.args.rows.now) c.args.answers.now c.loop-place.place c.index-answers-place.result (map judged_of c.loop-place.cases.items) (map judged_of c.push_answer.new.cases.items) _
    c.loop-place-test.true c.index-answers-place.is c.in_ok-push_answer.ensures.pushed c.loop-place.invariant

pub returns : goal.returns
returns c = record {
  pushed = by_place-end (first_case c.args.plan.now c.args.rows.now) c.args.answers.now c.loop-place.place (map judged_of c.loop-place.cases.items) _
      c.loop-place-test.false c.loop-place.invariant;
}
