-- The out-parameters of an answer.
use Rattle.std.specs.Prelude.{◌≡◌, ℕ, ℤ, pos, ◌-◌, if◌then◌else◌, List, ◌++◌, length, map, replicate, codes}
use Rattle.point_core.specs.Status.{status_number}
use Rattle.point_core.specs.Usage.{usage_number}
use Rattle.command_core.specs.declared.answer.Answer.{Answer}
use Rattle.command_core.specs.declared.answer.Answer.TheVariants as answer
use Rattle.command_core.specs.declared.answer.FenceRow.{FenceRow}
use Rattle.command_core.specs.declared.answer.ShowRow.{ShowRow}
use Rattle.command_core.specs.declared.answer.Info.{Info}
use Rattle.command_core.specs.declared.answer.FileRow.{FileRow}
use Rattle.command_core.specs.declared.answer.BufferRows.{BufferRows}
use Rattle.command_core.specs.Tables.{Tables}
use Rattle.point_core.specs.declared.timeline_row.TimelineRow.{TimelineRow}
use Rattle.command_core.specs.declared.answer.Maker.{Maker}
use Rattle.command_core.specs.declared.answer.Maker.TheVariants.{SwSync, Stub}
use Rattle.c_desk.specs.declared.rows.TheConstants.{NAME_ROOM, DRIVER_ROOM}
use Rattle.c_desk.specs.declared.rows.CFenceRow.{CFenceRow}
use Rattle.c_desk.specs.declared.rows.CShowRow.{CShowRow}
use Rattle.c_desk.specs.declared.rows.CTimelineRow.{CTimelineRow}
use Rattle.c_desk.specs.declared.rows.CFileRow.{CFileRow}
use Rattle.c_desk.specs.declared.rows.CBufferRow.{CBufferRow}
use Rattle.c_desk.specs.declared.rows.RowCounts.{RowCounts}
use Rattle.c_handle.specs.Rows.{over}

-- the text, padded with zeros
abbrev pub filled_to : ℕ → List ℕ → List ℕ
filled_to room text = text ++ replicate (room - length text) 0

abbrev pub filled : List ℕ → List ℕ
filled name = filled_to NAME_ROOM name

abbrev pub driver_text : Maker → List ℕ
driver_text SwSync = filled_to DRIVER_ROOM (codes "sw_sync")
driver_text Stub = filled_to DRIVER_ROOM (codes "stub")

abbrev pub c_fence_row : FenceRow → CFenceRow
c_fence_row r =
    record { timeline = filled r.timeline; point = r.point; driver = driver_text r.driver; status = status_number r.status }

abbrev pub c_show_row : ShowRow → CShowRow
c_show_row r = record { usage = pos (usage_number r.usage); timeline = filled r.timeline; point = r.point }

abbrev pub c_timeline_row : TimelineRow → CTimelineRow
c_timeline_row r = record { timeline = filled r.name; value = r.value; is_closed = if r.closed then pos 1 else pos 0 }

abbrev pub c_file_row : FileRow → CFileRow
c_file_row r = record { file = filled r.name; fences = r.count; status = status_number r.status }

abbrev pub c_buffer_row : BufferRows → CBufferRow
c_buffer_row b = record { buffer = filled b.name; rows = length b.rows }

-- a function of file information if the answer is one, or the old value
abbrev pub info_or : {A : Type 0} → Answer → (Info → A) → A → A
info_or (answer.Info i) made old = made i
info_or answer.Done made old = old
info_or (answer.Value n) made old = old
info_or (answer.Raised n fired) made old = old
info_or (answer.Show rows) made old = old
info_or (answer.Report report) made old = old
info_or (answer.Refused r) made old = old

-- a function of a buffer's table if the answer is one, or the old value
abbrev pub table_or : {A : Type 0} → Answer → (List ShowRow → A) → A → A
table_or (answer.Show rows) made old = made rows
table_or answer.Done made old = old
table_or (answer.Value n) made old = old
table_or (answer.Raised n fired) made old = old
table_or (answer.Info i) made old = old
table_or (answer.Report report) made old = old
table_or (answer.Refused r) made old = old

-- a file's status, the number of its fences, and as many of them as there is room for
pub record StoresInfo (given : Answer) (old_status new_status : ℤ) (old_rows new_rows : List CFenceRow)
    (old_count new_count : ℕ) : Type 0 where
  pub status : new_status ≡ info_or given (λ i. status_number i.status) old_status
  pub rows : new_rows ≡ info_or given (λ i. over (map c_fence_row i.fences) old_rows) old_rows
  pub count : new_count ≡ info_or given (λ i. length i.fences) old_count

-- the number of a table's rows, and as many of them as there is room for
pub record StoresTable (given : Answer) (old_rows new_rows : List CShowRow) (old_count new_count : ℕ) : Type 0 where
  pub rows : new_rows ≡ table_or given (λ table. over (map c_show_row table) old_rows) old_rows
  pub count : new_count ≡ table_or given (λ table. length table) old_count

-- a function of a report if the answer is one, or the old value
abbrev pub report_or : {A : Type 0} → Answer → (Tables → A) → A → A
report_or (answer.Report report) made old = made report
report_or answer.Done made old = old
report_or (answer.Value n) made old = old
report_or (answer.Raised n fired) made old = old
report_or (answer.Info i) made old = old
report_or (answer.Show rows) made old = old
report_or (answer.Refused r) made old = old

-- the number of rows of each kind in a report
abbrev pub counts_of : Tables → RowCounts
counts_of t = record { timelines = length t.timelines; files = length t.files; buffers = length t.buffers }

-- the numbers of a report's timelines, files and buffers, and as many of each as there is room for
pub record StoresReport (given : Answer) (old_timelines new_timelines : List CTimelineRow) (old_files new_files : List CFileRow)
    (old_buffers new_buffers : List CBufferRow) (old_counts new_counts : RowCounts) : Type 0 where
  pub timelines : new_timelines ≡ report_or given (λ t. over (map c_timeline_row t.timelines) old_timelines) old_timelines
  pub files : new_files ≡ report_or given (λ t. over (map c_file_row t.files) old_files) old_files
  pub buffers : new_buffers ≡ report_or given (λ t. over (map c_buffer_row t.buffers) old_buffers) old_buffers
  pub counts : new_counts ≡ report_or given counts_of old_counts
