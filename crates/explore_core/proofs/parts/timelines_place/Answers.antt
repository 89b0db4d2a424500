use Rattle.std.proofs.Common.{Some, ap, ◌∙◌}
use Rattle.syncfile_core.proofs.Causes.{IfOk-then}
use Rattle.explore_core.proofs.Parting.{Begins-refl}
use Rattle.explore_core.proofs.parts.timelines_place.Goals as goal

pub returns-in_default-clause-begins : goal.returns-in_default-clause-begins
returns-in_default-clause-begins c = Begins-refl c.args.table.now

pub returns-clause-there : goal.returns-clause-there
returns-clause-there c = IfOk-then c.intern.result c.intern.ensures.there (λ place there. there ∙ ap Some (c.of.ensures ∙ c.in-Ok.ensures.rows))
