use Rattle.point_core.proofs.Agreement.{top-Some, top-None, top-is_some, top-is_none}
use Rattle.point_core.proofs.laws.top_is_the_latest_put.Goals as goal

pub returns-clause-put : goal.returns-clause-put
returns-clause-put c = λ es usage ctx p is. (top-Some es usage ctx p is).0

pub returns-clause-none_later : goal.returns-clause-none_later
returns-clause-none_later c = λ es usage ctx p is. (top-Some es usage ctx p is).1

pub returns-clause-only : goal.returns-clause-only
returns-clause-only c = top-is_some

pub returns-clause-none : goal.returns-clause-none
returns-clause-none c = λ es usage ctx. (top-None es usage ctx, top-is_none es usage ctx)
