use Rattle.std.proofs.Common.{sym, ◌∙◌}
use Rattle.explore_core.proofs.Same.{buffer-is, pointwise-is}
use Rattle.explore_core.proofs.look.are_same_buffers.Goals as goal

pub returns : goal.returns
returns c = λ is. pointwise-is _ buffer-is c.args.buffers.now c.args.others.now (sym c.eq.ensures ∙ is)
