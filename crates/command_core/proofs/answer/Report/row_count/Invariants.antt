use Rattle.std.proofs.Common.{◌≡◌, ◌+◌, ◌*◌, ◌≤◌, ◌^◌, length, take}
use Rattle.std.specs.List.{sum_by}
use Rattle.command_core.specs.Tables.{rows_beside}
use Rattle.command_core.proofs.answer.Report.row_count.Given as goal

abbrev pub invariant-loop-buffer : goal.invariant-loop-buffer
invariant-loop-buffer l =
    (l.count ≡ length l.self.timelines + length l.self.files + sum_by rows_beside (take l.buffer-index l.self.buffers))
    × (l.count ≤ (l.buffer-index + 2) * 2 ^ 64)
