use Rattle.draw_core.proofs.Lines.{HasRun-none}
use Rattle.draw_core.proofs.run.Run.new.Goals as goal

pub returns-clause-begun : goal.returns-clause-begun
returns-clause-begun c = rw c.new-2.ensures.refused (HasRun-none c.args.window.now c.in_ok-new.field-0 c.in_ok-new.ensures.empty)
