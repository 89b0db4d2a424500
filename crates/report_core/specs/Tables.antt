-- The texts of tables, row by row.
use Rattle.std.specs.Prelude.{ℕ, if◌then◌else◌, List, ◌++◌, length}
use Rattle.std.specs.List.{flat_map}
use Rattle.report_core.specs.declared.row_kind.RowKind.TheVariants.{Timeline, Closed, Buffer, Level}
use Rattle.report_core.specs.declared.row_kind.RowKind.{RowKind}
use Rattle.point_core.specs.declared.timeline_row.TimelineRow.{TimelineRow}
use Rattle.command_core.specs.declared.answer.ShowRow.{ShowRow}
use Rattle.command_core.specs.declared.answer.BufferRows.{BufferRows}
use Rattle.command_core.specs.Tables.{Tables}
use Rattle.report_core.specs.Row.{row_text, file_row_text}

abbrev pub show_row_text : ShowRow → List ℕ
show_row_text row = row_text (Level row.usage) row.timeline row.point

-- the table of one buffer
abbrev pub show_text : List ShowRow → List ℕ
show_text rows = flat_map show_row_text rows

-- a closed timeline has its own kind
abbrev pub timeline_kind : TimelineRow → RowKind
timeline_kind timeline = if timeline.closed then Closed else Timeline

abbrev pub timeline_text : TimelineRow → List ℕ
timeline_text timeline = row_text (timeline_kind timeline) timeline.name timeline.value

-- a buffer's row has the number of the rows that follow it
abbrev pub buffer_text : BufferRows → List ℕ
buffer_text buffer = row_text Buffer buffer.name (length buffer.rows) ++ show_text buffer.rows

-- the timelines, then the files, then the buffers
abbrev pub report_text : Tables → List ℕ
report_text report =
    flat_map timeline_text report.timelines
    ++ flat_map file_row_text report.files
    ++ flat_map buffer_text report.buffers
