use Rattle.device_core.proofs.Importing.{refused-unchanged}
use Rattle.device_core.proofs.device.buffers.import_into.Goals as goal

pub returns-in-Some-clause-unchanged : goal.returns-in-Some-clause-unchanged
returns-in-Some-clause-unchanged c =
    refused-unchanged c.import.result c.args.number c.args.buffers.now.entries (c.get_mut.follows.lender c.import.new.self).entries c.in-Some.buffer.now c.import.new.self
    c.in-Some.ensures.value (c.get_mut.follows.holds c.import.new.self).0 c.import.ensures.unchanged
