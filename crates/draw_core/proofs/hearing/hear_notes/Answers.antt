use Rattle.std.proofs.Common.{◌∙◌}
use Rattle.draw_core.proofs.hearing.hear_notes.Goals as goal

pub loop-number-preserved : goal.loop-number-preserved
loop-number-preserved c = record { refused = c.hear.ensures.refused ∙ c.loop-number.invariant.refused }
