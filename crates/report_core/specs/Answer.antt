-- The text of each answer.
use Rattle.std.specs.Prelude.{ℕ, List, [], ◌∷◌, ◌++◌, length, codes, decimal}
use Rattle.std.specs.List.{join_with_byte, flat_map}
use Rattle.point_core.specs.Refusal as refusal
use Rattle.report_core.specs.Status.{status_text}
use Rattle.point_core.specs.declared.refusal.Refusal.{Refusal}
use Rattle.point_core.specs.declared.status.Status.{Status}
use Rattle.point_core.specs.declared.refusal.Refusal.TheVariants.{Syntax, NoEntry, Exists, Overflow, Flags, Limit, Signalled, TimedOut, Foreign, Torn, NotAll, LongLine, Read, Write, Cancelled, Memory}
use Rattle.command_core.specs.declared.answer.Answer.{Answer}
use Rattle.command_core.specs.declared.answer.Answer.TheVariants as answer
use Rattle.command_core.specs.declared.answer.Info.{Info}
use Rattle.command_core.specs.declared.answer.FenceRow.{FenceRow}
use Rattle.command_core.specs.declared.answer.ShowRow.{ShowRow}
use Rattle.command_core.specs.Tables.{Tables, row_count}
use Rattle.report_core.specs.Tables.{show_text as rows_text, report_text as tables_text}
use Rattle.command_core.specs.declared.answer.Maker.{Maker}
use Rattle.command_core.specs.declared.answer.Maker.TheVariants.{SwSync, Stub}

-- a line of output: words with a space between each two, and a line feed
abbrev pub line_text : List (List ℕ) → List ℕ
line_text words = join_with_byte 32 words ++ 10 ∷ []

abbrev pub driver_of : Maker → List ℕ
driver_of SwSync = codes "sw_sync"
driver_of Stub = codes "stub"

abbrev pub fence_text : FenceRow → List ℕ
fence_text row = line_text
    (codes "fence" ∷ row.timeline ∷ driver_of row.driver ∷ decimal row.point ∷ status_text row.status ∷ [])

abbrev pub info_line : List ℕ → Status → ℕ → List ℕ
info_line name status count = line_text (codes "ok" ∷ name ∷ status_text status ∷ decimal count ∷ [])

abbrev pub info_text : Info → List ℕ
info_text info = info_line info.name info.status (length info.fences) ++ flat_map fence_text info.fences

abbrev pub fired_text : ℕ → List ℕ
fired_text cookie = line_text (codes "fired" ∷ decimal cookie ∷ [])

abbrev pub value_line : ℕ → List ℕ
value_line value = line_text (codes "ok" ∷ decimal value ∷ [])

-- a timeline's new value, and the callbacks that fired
abbrev pub raised_text : ℕ → List ℕ → List ℕ
raised_text value fired = value_line value ++ flat_map fired_text fired

-- the number of rows, and the rows
abbrev pub show_text : List ShowRow → List ℕ
show_text rows = value_line (length rows) ++ rows_text rows

abbrev pub report_text : Tables → List ℕ
report_text tables = value_line (row_count tables) ++ tables_text tables

-- the details of a refusal of line `number`, after its name
abbrev pub details : ℕ → Refusal → List (List ℕ)
details number Syntax = codes "line" ∷ decimal number ∷ []
details number LongLine = codes "line" ∷ decimal number ∷ []
details number (Limit kind) = refusal.limit_word kind ∷ []
details number NoEntry = []
details number Exists = []
details number Overflow = []
details number Flags = []
details number Signalled = []
details number TimedOut = []
details number Foreign = []
details number Torn = []
details number NotAll = []
details number Read = []
details number Write = []
details number Cancelled = []
details number Memory = []

abbrev pub refusal_text : ℕ → Refusal → List ℕ
refusal_text number r = line_text
    (codes "err" ∷ decimal (refusal.refusal_number r) ∷ refusal.refusal_name r ∷ details number r)

-- the text of the answer of line `number`
abbrev pub text_of : ℕ → Answer → List ℕ
text_of number answer.Done = line_text (codes "ok" ∷ [])
text_of number (answer.Value n) = value_line n
text_of number (answer.Raised value fired) = raised_text value fired
text_of number (answer.Info info) = info_text info
text_of number (answer.Show rows) = show_text rows
text_of number (answer.Report tables) = report_text tables
text_of number (answer.Refused r) = refusal_text number r

-- the first line of that text
abbrev pub first_line_of : ℕ → Answer → List ℕ
first_line_of number answer.Done = line_text (codes "ok" ∷ [])
first_line_of number (answer.Value n) = value_line n
first_line_of number (answer.Raised value fired) = value_line value
first_line_of number (answer.Info info) = info_line info.name info.status (length info.fences)
first_line_of number (answer.Show rows) = value_line (length rows)
first_line_of number (answer.Report tables) = value_line (row_count tables)
first_line_of number (answer.Refused r) = refusal_text number r

-- its other lines
abbrev pub rows_of : Answer → List ℕ
rows_of answer.Done = []
rows_of (answer.Value n) = []
rows_of (answer.Raised value fired) = flat_map fired_text fired
rows_of (answer.Info info) = flat_map fence_text info.fences
rows_of (answer.Show rows) = rows_text rows
rows_of (answer.Report tables) = tables_text tables
rows_of (answer.Refused r) = []
