use Rattle.std.proofs.Common.{◌∙◌}
use Rattle.point_core.proofs.InUse.{padded-front, AreInUse-front}
use Rattle.point_core.proofs.context_values.ContextValues.in_use.Goals as goal

pub returns-clause-values : goal.returns-clause-values
returns-clause-values c = padded-front c.self.inside.values c.self.inside.used c.self.invariant ∙ c.self.view_is

pub returns-clause-in_use : goal.returns-clause-in_use
returns-clause-in_use c = AreInUse-front c.self.inside.values c.self.inside.used c.self.invariant
