use Rattle.std.proofs.Common.{rules}
use Rattle.device_core.proofs.info.info.Goals as goal

pub returns-clause-status : goal.returns-clause-status
returns-clause-status c = search rules
