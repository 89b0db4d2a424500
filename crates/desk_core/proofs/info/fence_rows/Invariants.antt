use Rattle.std.proofs.Common.{◌≡◌, ◌≤◌, length, map, take, vec_len, vec_capacity}
use Rattle.desk_core.specs.theorem.Answer.{fence_row}
use Rattle.desk_core.proofs.info.fence_rows.Given as goal

abbrev pub invariant-loop-point : goal.invariant-loop-point
invariant-loop-point l =
    (l.rows.items ≡ map (fence_row l.timelines) (take l.point-index l.points))
    × (vec_len l.rows ≤ l.point-index)
    × (vec_capacity l.rows ≡ length l.points)
