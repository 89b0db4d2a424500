use Rattle.std.proofs.Common.{◌≡◌, filter, take}
use Rattle.explore_core.specs.Search.{is_to_come}
use Rattle.explore_core.proofs.look.points_to_come.Given as goal

abbrev pub invariant-loop-point : goal.invariant-loop-point
invariant-loop-point l = l.points.items ≡ filter (is_to_come l.desk.timelines) (take l.point-index l.listed)
