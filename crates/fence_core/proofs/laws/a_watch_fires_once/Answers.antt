use Rattle.fence_core.proofs.Once.{Contains-after_calls, fired_along-left, Contains-fired_by, has_watch-fired, IsDistinct-fired_by, fired_along-absent}
use Rattle.fence_core.proofs.laws.a_watch_fires_once.Goals as goal

pub returns-clause-pending : goal.returns-clause-pending
returns-clause-pending c = λ ws cookie points calls. Contains-after_calls cookie points ws calls

pub returns-clause-not_before : goal.returns-clause-not_before
returns-clause-not_before c = λ ws cookie points calls. fired_along-left cookie points ws calls

pub returns-clause-fired : goal.returns-clause-fired
returns-clause-fired c = λ ws cookie points reach. Contains-fired_by cookie points ws reach

pub returns-clause-once : goal.returns-clause-once
returns-clause-once c = IsDistinct-fired_by

pub returns-clause-taken_out : goal.returns-clause-taken_out
returns-clause-taken_out c = λ ws cookie points reach. has_watch-fired cookie points ws reach

pub returns-clause-not_again : goal.returns-clause-not_again
returns-clause-not_again c = λ ws cookie calls. fired_along-absent cookie ws calls
