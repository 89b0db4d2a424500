use Rattle.std.proofs.Common.{[], sym, subst}
use Rattle.resv_core.specs.Resv.{entries_as}
use Rattle.resv_core.specs.Tops.{AreTops}
use Rattle.resv_core.proofs.Kept.{AreTops-zero}
use Rattle.resv_core.proofs.top_table.first_of.Goals as goal

pub returns-in-Ok-clause-tops : goal.returns-in-Ok-clause-tops
returns-in-Ok-clause-tops c =
    let tell = c.raise_all.ensures.tops [] [] (AreTops-zero c.zero.ensures c.above-first.ensures.empty) in
    subst (λ tops. AreTops tops [] (entries_as c.args.usage c.args.points.now)) (sym c.in-Ok.ensures.ok) tell
