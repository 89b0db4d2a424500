use Rattle.device_core.proofs.Exports.{exported-agrees, exported-rising, exported-waits}
use Rattle.device_core.proofs.buffer_laws.an_export_is_what_waits.Goals as goal

pub returns : goal.returns
returns c = record { agrees = exported-agrees; waiting = exported-waits; rising = exported-rising }
