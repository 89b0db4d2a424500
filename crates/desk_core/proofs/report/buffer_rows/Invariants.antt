use Rattle.std.proofs.Common.{◌≡◌, ◌≤◌, length, map, take, vec_len, vec_capacity}
use Rattle.dmabuf_core.specs.Buffers.{names_of}
use Rattle.desk_core.specs.Keeping.{buffer_rows_at}
use Rattle.desk_core.proofs.report.buffer_rows.Given as goal

abbrev pub invariant-loop-name : goal.invariant-loop-name
invariant-loop-name l =
    (l.listed.items ≡ map (buffer_rows_at l.timelines l.buffers) (take l.name-index (names_of l.buffers)))
    × (vec_len l.listed ≤ l.name-index)
    × (vec_capacity l.listed ≡ length (names_of l.buffers))
