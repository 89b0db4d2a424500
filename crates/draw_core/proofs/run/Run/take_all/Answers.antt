use Rattle.std.proofs.Common.{◌∙◌, refl, take}
use Rattle.draw_core.proofs.Lines.{take_line}
use Rattle.draw_core.proofs.run.Run.take_all.Goals as goal

pub loop-line-preserved : goal.loop-line-preserved
loop-line-preserved g c =
    let lines = c.args.lines.now in
    let i = c.loop-line.line-index in
    let line = c.line-item.result in
    record {
      run =
          rw (c.take.ensures.window, take_line lines i line c.raw_line.result.number line.body c.loop-line-test.true c.line-item.is c.raw_line.ensures refl)
          (c.take.ensures.run (take i lines)
          (rw (c.in_ok-hear_before.ensures.window, c.in_ok-hear_before.ensures.desk, c.in_ok-hear_before.ensures.refused) c.loop-line.invariant.run));
      window = c.take.ensures.window ∙ c.in_ok-hear_before.ensures.window ∙ c.loop-line.invariant.window;
    }
