use Rattle.std.proofs.Common.{sym, ◌∙◌}
use Rattle.std.specs.Cmp.Lexicographic.{same_text}
use Rattle.explore_core.proofs.level.are_same.Goals as goal

pub returns : goal.returns
returns c = λ is. same_text c.args.made.now c.args.others.now (sym (sym c.eq.ensures ∙ is))
