use Rattle.device_core.proofs.Exports.{AgreesAbove-at_usage}
use Rattle.device_core.proofs.buffer_laws.exports_show_agreement.Goals as goal

pub returns : goal.returns
returns c = AgreesAbove-at_usage
