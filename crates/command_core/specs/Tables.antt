-- The contents of a report.
use Rattle.std.specs.Prelude.{ℕ, ◌+◌, List, length}
use Rattle.std.specs.List.{sum_by}
use Rattle.point_core.specs.declared.timeline_row.TimelineRow.{TimelineRow}
use Rattle.command_core.specs.declared.answer.FileRow.{FileRow}
use Rattle.command_core.specs.declared.answer.BufferRows.{BufferRows}

-- the timelines by rising context with their values, the files and the buffers in order of making
pub record Tables : Type 0 where
  pub timelines : List TimelineRow
  pub files : List FileRow
  pub buffers : List BufferRows

-- the buffer's row, and the rows of its table
abbrev pub rows_beside : BufferRows → ℕ
rows_beside b = length b.rows + 1

-- a row for each timeline, file and buffer, and the rows of each buffer
abbrev pub row_count : Tables → ℕ
row_count t = length t.timelines + length t.files + sum_by rows_beside t.buffers
