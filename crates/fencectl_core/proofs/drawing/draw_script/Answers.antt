use Rattle.std.proofs.Common.{sym, ◌∙◌}
use Rattle.std.proofs.lemmas.Result.{IfOk-weaker}
use Rattle.fencectl_core.proofs.Drawn.{long-status, short-status}
use Rattle.fencectl_core.proofs.drawing.draw_script.Goals as goal

pub returns-then-long : goal.returns-then-long
returns-then-long c = record {
  status = IfOk-weaker c.report_mistake.result _ _
      (λ ended two. long-status c.args.asked.now c.args.lines.now.window.now c.args.lines.now.script.now ended (sym c.in_ok-long.ensures.long ∙ c.if-long.true) two)
      c.report_mistake.ensures.status;
}

pub returns : goal.returns
returns c = record {
  status = IfOk-weaker c.draw_run.result _ _
      (λ ended run. short-status c.args.asked.now c.args.lines.now.window.now c.args.lines.now.script.now ended (sym c.in_ok-long.ensures.long ∙ c.if-long.false) run)
      c.draw_run.ensures.status;
}
