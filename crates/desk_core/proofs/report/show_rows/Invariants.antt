use Rattle.std.proofs.Common.{◌≡◌, ◌≤◌, length, map, take, vec_len, vec_capacity}
use Rattle.desk_core.specs.theorem.Answer.{show_row}
use Rattle.desk_core.proofs.report.show_rows.Given as goal

abbrev pub invariant-loop-top : goal.invariant-loop-top
invariant-loop-top l =
    (l.rows.items ≡ map (show_row l.timelines) (take l.top-index l.tops))
    × (vec_len l.rows ≤ l.top-index)
    × (vec_capacity l.rows ≡ length l.tops)
