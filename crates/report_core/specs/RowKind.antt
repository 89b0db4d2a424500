-- The words of a row's first column.
use Rattle.std.specs.Prelude.{ℕ, List, codes}
use Rattle.point_core.specs.declared.entry.Usage.{Usage}
use Rattle.point_core.specs.declared.entry.Usage.TheVariants.{Kernel, Write, Read, Bookkeep}
use Rattle.report_core.specs.declared.row_kind.RowKind.{RowKind}
use Rattle.report_core.specs.declared.row_kind.RowKind.TheVariants.{Timeline, Closed, File, Buffer, Level}

abbrev pub usage_word : Usage → List ℕ
usage_word Kernel = codes "kernel"
usage_word Write = codes "write"
usage_word Read = codes "read"
usage_word Bookkeep = codes "bookkeep"

abbrev pub kind_word : RowKind → List ℕ
kind_word Timeline = codes "timeline"
kind_word Closed = codes "closed"
kind_word File = codes "file"
kind_word Buffer = codes "buffer"
kind_word (Level usage) = usage_word usage
