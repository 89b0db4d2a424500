use Rattle.device_core.proofs.Asked.{put_into-fence}
use Rattle.device_core.proofs.laws.a_new_fence_is_at_a_point_by_the_increments.Goals as goal

pub returns : goal.returns
returns c = put_into-fence
