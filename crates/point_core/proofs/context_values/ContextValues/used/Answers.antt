use Rattle.point_core.proofs.Used.{used_of-past}
use Rattle.point_core.proofs.context_values.ContextValues.used.Goals as goal

pub returns-clause-past : goal.returns-clause-past
returns-clause-past c = λ index low. rw (← c.self.view_is) (used_of-past c.self.inside.values index (rw (← c.self.invariant.2) low))
