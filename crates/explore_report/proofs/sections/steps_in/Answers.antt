use Rattle.std.proofs.Common.{◌++◌, ◌∙◌, ap, length}
use Rattle.explore_report.specs.Lines.{texts_of}
use Rattle.explore_report.specs.Plan.{steps_at}
use Rattle.explore_report.proofs.Steps.{steps-end, steps-next}
use Rattle.explore_report.proofs.sections.steps_in.Goals as goal

pub loop-index-preserved : goal.loop-index-preserved
loop-index-preserved c =
    let lines = texts_of c.args.lines.now in
    let steps = c.loop-index.steps.items in
    let row = c.index-rows-index.result in
    steps-next c.args.purpose lines c.args.rows.now c.args.section c.args.rows.now c.loop-index.index row steps c.push_step.new.steps.items _ c.loop-index-test.true c.index-rows-index.is
    (c.in_ok-push_step.ensures.pushed ∙ ap (λ below. steps ++ steps_at c.args.purpose lines c.args.rows.now c.args.section (length steps) row below) c.below-below.ensures.below)
    c.loop-index.invariant

pub returns : goal.returns
returns c = record {
  steps = steps-end c.args.purpose (texts_of c.args.lines.now) c.args.rows.now c.args.section c.args.rows.now c.loop-index.index c.loop-index.steps.items _ c.loop-index-test.false c.loop-index.invariant;
}
