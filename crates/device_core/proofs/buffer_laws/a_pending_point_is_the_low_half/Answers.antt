use Rattle.device_core.proofs.LowHalf.{low_half}
use Rattle.device_core.proofs.buffer_laws.a_pending_point_is_the_low_half.Goals as goal

pub returns : goal.returns
returns c = low_half
