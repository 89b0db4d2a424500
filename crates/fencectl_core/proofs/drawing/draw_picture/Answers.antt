use Rattle.std.proofs.Common.{ap}
use Rattle.std.proofs.lemmas.Result.{IfOk-weaker}
use Rattle.picture_core.specs.declared.history.History.{History}
use Rattle.fencectl_core.proofs.Drawn.{run-status}
use Rattle.fencectl_core.proofs.drawing.draw_picture.Goals as goal

pub returns : goal.returns
returns c = record {
  status = IfOk-weaker c.write_picture.result _ _
      (λ ended same. run-status c.args.lines.now.window.now c.args.lines.now.script.now _ c.history.result.now.refused c.status_of-status.result ended
      c.in_ok-drawing.ensures.refused (ap (λ (h : History). h.refused) c.history.ensures) c.status_of-status.ensures same)
      c.write_picture.ensures.status;
}
