use Rattle.std.proofs.Common.{◌∙◌}
use Rattle.draw_core.proofs.tasks.enter_tasks.Goals as goal

pub loop-wait-preserved : goal.loop-wait-preserved
loop-wait-preserved c = record { refused = c.enter_task.ensures.refused ∙ c.loop-wait.invariant.refused }
