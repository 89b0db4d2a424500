use Rattle.std.proofs.Common.{rules}
use Rattle.device_core.proofs.woken.put_if_woken.Goals as goal

pub returns-clause-put : goal.returns-clause-put
returns-clause-put c = search rules
