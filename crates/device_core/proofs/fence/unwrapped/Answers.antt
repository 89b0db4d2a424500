use Rattle.std.proofs.Common.{rules}
use Rattle.device_core.proofs.fence.unwrapped.Goals as goal

pub returns-then-ahead-clause-point : goal.returns-then-ahead-clause-point
returns-then-ahead-clause-point c = search rules
