use Rattle.std.proofs.Common.{◌++◌, ◌∙◌, ap}
use Rattle.explore_report.specs.Expected.{begun_at}
use Rattle.explore_report.specs.Lines.{texts_of}
use Rattle.explore_report.proofs.Expectations.{with_below-end, with_below-next}
use Rattle.explore_report.proofs.expected.push_begun.Goals as goal

pub loop-index-preserved : goal.loop-index-preserved
loop-index-preserved c =
    let at = begun_at (texts_of c.args.lines.now) in
    let note = c.index-notes-index.result in
    let answers = c.loop-index.answers.items in
    with_below-next at c.args.notes.now c.loop-index.index note answers c.push_if.new.answers.items _ c.loop-index-test.true c.index-notes-index.is
    (c.in_ok-push_if.ensures.pushed ∙ ap (λ below. answers ++ at note below) c.below.ensures.below)
    c.loop-index.invariant

pub returns : goal.returns
returns c = record {
  pushed = with_below-end (begun_at (texts_of c.args.lines.now)) c.args.notes.now c.loop-index.index c.loop-index.answers.items _ c.loop-index-test.false
      c.loop-index.invariant;
}
