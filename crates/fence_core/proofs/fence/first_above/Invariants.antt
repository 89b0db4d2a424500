use Rattle.std.proofs.Common.{◌≡◌, true, take}
use Rattle.fence_core.specs.Fence.{are_reached}
use Rattle.fence_core.proofs.fence.first_above.Given as goal

abbrev pub invariant-loop-point : goal.invariant-loop-point
invariant-loop-point l = are_reached l.reach (take l.point-index l.points) ≡ true
