use Rattle.std.proofs.Common.{◌≡◌, ◌≤◌, length, map, take, vec_len, vec_capacity}
use Rattle.desk_core.specs.Keeping.{file_row_at}
use Rattle.desk_core.proofs.report.file_rows.Given as goal

abbrev pub invariant-loop-name : goal.invariant-loop-name
invariant-loop-name l =
    (l.rows.items ≡ map (file_row_at l.clocks) (take l.name-index l.files))
    × (vec_len l.rows ≤ l.name-index)
    × (vec_capacity l.rows ≡ length l.files)
