use Rattle.std.proofs.Common.{◌≡◌, ◌≤◌, length}
use Rattle.std.specs.List.{filter_map, range_with_len}
use Rattle.point_core.specs.Latest.{point_above}
use Rattle.point_core.proofs.latest_points.LatestPoints.number_above.Given as goal

abbrev pub invariant-loop-index : goal.invariant-loop-index
invariant-loop-index l =
    (l.number ≡ length (filter_map (point_above l.self l.reach) (range_with_len 1 l.index))) × (l.number ≤ l.index)
