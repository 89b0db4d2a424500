use Rattle.std.proofs.Common.{◌++◌, ◌∙◌, ap}
use Rattle.explore_report.specs.Expected.{expects_at}
use Rattle.explore_report.specs.Lines.{texts_of}
use Rattle.explore_report.proofs.Expectations.{with_below-end, with_below-next}
use Rattle.explore_report.proofs.expected.expects_in.Goals as goal

pub loop-index-preserved : goal.loop-index-preserved
loop-index-preserved c =
    let at = expects_at (texts_of c.args.lines.now) in
    let row = c.index-rows-index.result in
    let all = c.loop-index.all.items in
    with_below-next at c.args.rows.now c.loop-index.index row all c.push_expects.new.all.items _ c.loop-index-test.true c.index-rows-index.is
    (c.in_ok-push_expects.ensures.pushed ∙ ap (λ below. all ++ at row below) c.below.ensures.below)
    c.loop-index.invariant

pub returns : goal.returns
returns c = record {
  all = with_below-end (expects_at (texts_of c.args.lines.now)) c.args.rows.now c.loop-index.index c.loop-index.all.items _ c.loop-index-test.false
      c.loop-index.invariant;
}
