use Rattle.device_core.proofs.Putting.{import-agrees}
use Rattle.device_core.proofs.buffer_laws.an_import_is_a_union.Goals as goal

pub returns : goal.returns
returns c = import-agrees
