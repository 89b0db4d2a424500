use Rattle.std.proofs.Common.{rules}
use Rattle.device_core.proofs.fence.Fence.signal.Goals as goal

pub returns-then-self-value : goal.returns-then-self-value
returns-then-self-value c = search rules
