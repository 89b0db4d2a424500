use Rattle.std.proofs.Common.{◌≡◌, take}
use Rattle.point_core.specs.Clocks.{common_status}
use Rattle.point_core.proofs.clocks.Clocks.common_status.Given as goal

abbrev pub invariant-loop-point : goal.invariant-loop-point
invariant-loop-point l = l.status ≡ common_status l.self (take l.point-index l.points)
