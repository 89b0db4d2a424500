use Rattle.std.proofs.Common.{◌≡◌, take}
use Rattle.draw_core.specs.Progress.{HasRun}
use Rattle.draw_core.proofs.run.Run.take_all.Given as goal

abbrev pub invariant-loop-line : goal.invariant-loop-line
invariant-loop-line g l = record {
  run : HasRun l.self.window (take l.line-index l.lines) l.self.desk l.self.history.refused;
  window : l.self.window ≡ l.fn.self.window;
}
