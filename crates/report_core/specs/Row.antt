-- The text of one row.
use Rattle.std.specs.Prelude.{ℕ, List, [], ◌∷◌, ◌++◌, decimal}
use Rattle.report_core.specs.declared.rows.TheConstants.{KIND_WIDTH, SUBJECT_WIDTH, NUMBER_WIDTH, COUNT_WIDTH}
use Rattle.report_core.specs.declared.row_kind.RowKind.{RowKind}
use Rattle.report_core.specs.declared.row_kind.RowKind.TheVariants.{File}
use Rattle.command_core.specs.declared.answer.FileRow.{FileRow}
use Rattle.report_core.specs.Columns.{column, right}
use Rattle.report_core.specs.RowKind.{kind_word}
use Rattle.report_core.specs.Status.{status_text}

-- the kind of a row, its subject and the text of a number
abbrev pub columns : RowKind → List ℕ → List ℕ → List ℕ
columns kind subject number =
    column KIND_WIDTH (kind_word kind) ++ column SUBJECT_WIDTH subject ++ right NUMBER_WIDTH number

-- a row ends at a line feed, which is 10
abbrev pub row_text : RowKind → List ℕ → ℕ → List ℕ
row_text kind subject number = columns kind subject (decimal number) ++ 10 ∷ []

-- a file's row has its status for the number, and one more column, the count of its fences
abbrev pub file_row_text : FileRow → List ℕ
file_row_text file =
    columns File file.name (status_text file.status) ++ 32 ∷ right COUNT_WIDTH (decimal file.count) ++ 10 ∷ []
