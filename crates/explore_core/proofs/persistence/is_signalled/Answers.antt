use Rattle.std.proofs.Common.{sym, ◌∙◌}
use Rattle.explore_core.proofs.Settling.{wait-accepted}
use Rattle.explore_core.proofs.persistence.is_signalled.Goals as goal

pub returns : goal.returns
returns c = λ is history stands. wait-accepted stands c.args.file.now c.in-Some.points.now (sym c.in-Some.ensures.points) (sym c.are_reached.ensures ∙ is)
