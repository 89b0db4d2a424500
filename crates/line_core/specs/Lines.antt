use Rattle.std.specs.Prelude.{ℕ, ◌+◌, if◌then◌else◌, List, [], length, Option, None, Some, is_some}
use Rattle.line_core.specs.declared.line.Line.{Line}
use Rattle.line_core.specs.declared.script.Ending.{Ending}
use Rattle.line_core.specs.declared.script.Lines.{Lines}
use Rattle.line_core.specs.Script.{numbered, lines_of}

abbrev pub lines_before : Option Ending → ℕ → List ℕ → List Line
lines_before None number rest = []
lines_before (Some end) number rest = numbered end number (lines_of rest)

-- the lines that are to come
abbrev pub lines_left : Lines → List Line
lines_left l = lines_before l.ending l.number l.rest.now

-- an upper bound on the lines that are to be looked at
abbrev pub turns_left : Lines → ℕ
turns_left l = length l.rest.now + (if is_some l.ending then 1 else 0)
