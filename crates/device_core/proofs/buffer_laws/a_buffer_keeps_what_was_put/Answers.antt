use Rattle.device_core.proofs.BufferSteps.{export-keeps, export-step, import-keeps, import-step, test-step}
use Rattle.device_core.proofs.buffer_laws.a_buffer_keeps_what_was_put.Goals as goal

pub returns : goal.returns
returns c = record { imports = import-step; kept = import-keeps; exports = export-step; fences = export-keeps; tests = test-step }
