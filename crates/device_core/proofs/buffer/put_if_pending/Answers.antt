use Rattle.std.proofs.Common.{rules}
use Rattle.device_core.proofs.buffer.put_if_pending.Goals as goal

pub returns-then-is_none-clause-put : goal.returns-then-is_none-clause-put
returns-then-is_none-clause-put c = search rules
