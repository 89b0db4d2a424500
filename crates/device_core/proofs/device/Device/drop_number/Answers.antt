use Rattle.std.proofs.Common.{rules}
use Rattle.device_core.proofs.device.Device.drop_number.Goals as goal

pub invariant_of-self : goal.invariant_of-self
invariant_of-self c = search rules

pub returns-in-Some-clause-next : goal.returns-in-Some-clause-next
returns-in-Some-clause-next c = search rules
