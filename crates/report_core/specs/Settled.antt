-- The text of the settled tables. A client is named by `c` and its number, a buffer by `b` and its number.
use Rattle.std.specs.Prelude.{ℕ, List, ◌++◌, length, codes, decimal}
use Rattle.std.specs.List.{flat_map, enumerate_from}
use Rattle.point_core.specs.declared.listing.TopRow.{TopRow}
use Rattle.resv_core.specs.declared.plan.Settled.{Settled}
use Rattle.report_core.specs.declared.row_kind.RowKind.TheVariants.{Timeline, Buffer, Level}
use Rattle.report_core.specs.Row.{row_text}

abbrev pub client_name : ℕ → List ℕ
client_name number = codes "c" ++ decimal number

abbrev pub buffer_name : ℕ → List ℕ
buffer_name number = codes "b" ++ decimal number

-- a client's number, and the value of its timeline
abbrev pub client_text : ℕ × ℕ → List ℕ
client_text client = row_text Timeline (client_name client.0) client.1

-- a client drives the context of its number
abbrev pub top_text : TopRow → List ℕ
top_text row = row_text (Level row.usage) (client_name row.ctx) row.point

-- a buffer's row has the number of the rows that follow it
abbrev pub table_text : ℕ × List TopRow → List ℕ
table_text table = row_text Buffer (buffer_name table.0) (length table.1) ++ flat_map top_text table.1

-- the clients are numbered from 1, and the buffers from 0
abbrev pub settled_text : Settled → List ℕ
settled_text settled =
    flat_map client_text (enumerate_from 1 settled.values) ++ flat_map table_text (enumerate_from 0 settled.tables)
