use Rattle.std.proofs.Common.{refl}
use Rattle.device_core.specs.theorem.Buffers.{none_waits}
use Rattle.device_core.proofs.Exports.{tested}
use Rattle.device_core.proofs.buffer_laws.a_test_finds_what_is_reached.Goals as goal

pub returns : goal.returns
returns c = λ timelines usage hs reach of. tested timelines usage hs reach (none_waits timelines usage hs) refl of
