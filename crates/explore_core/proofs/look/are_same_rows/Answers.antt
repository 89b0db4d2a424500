use Rattle.std.proofs.Common.{sym, ◌∙◌}
use Rattle.explore_core.proofs.Same.{row-is, pointwise-is}
use Rattle.explore_core.proofs.look.are_same_rows.Goals as goal

pub returns : goal.returns
returns c = λ is. pointwise-is _ row-is c.args.rows.now c.args.others.now (sym c.eq.ensures ∙ is)
