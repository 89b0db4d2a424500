use Rattle.std.proofs.Common.{◌≡◌}
use Rattle.std.specs.List.{filter_map, range_with_len}
use Rattle.point_core.specs.Latest.{point_above}
use Rattle.point_core.proofs.latest_points.LatestPoints.list.Given as goal

abbrev pub invariant-loop-index : goal.invariant-loop-index
invariant-loop-index l =
    l.points.items ≡ filter_map (point_above l.self l.reach) (range_with_len 1 l.index)
