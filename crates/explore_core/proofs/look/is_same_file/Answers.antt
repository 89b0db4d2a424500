use Rattle.std.proofs.Common.{sym, ◌∙◌}
use Rattle.explore_core.proofs.Same.{file-is}
use Rattle.explore_core.proofs.look.is_same_file.Goals as goal

pub returns : goal.returns
returns c = λ is. file-is c.args.file.now c.args.other.now (sym c.eq.ensures ∙ is)
