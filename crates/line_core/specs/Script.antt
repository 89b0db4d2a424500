-- The lines of a script.
use Rattle.std.specs.Prelude.{ℕ, ◌+◌, ◌==◌, nat_le, Bool, if◌then◌else◌, List, [], ◌∷◌, length, take, Option, None, Some}
use Rattle.std.specs.List.{slice_split}
use Rattle.point_core.specs.declared.refusal.Refusal.TheVariants.{Limit}
use Rattle.point_core.specs.declared.refusal.LimitKind.TheVariants.{Script}
use Rattle.line_core.specs.declared.line.Body.{Body}
use Rattle.line_core.specs.declared.line.Body.TheVariants.{Bad}
use Rattle.line_core.specs.declared.line.Line.{Line}
use Rattle.line_core.specs.declared.script.Ending.{Ending}
use Rattle.line_core.specs.declared.script.Ending.TheVariants as ending
use Rattle.line_core.specs.declared.script.TheConstants.{SCRIPT_BYTES}
use Rattle.line_core.specs.Line.{body_of}

-- 10 is the line feed
abbrev pub is_line_feed : ℕ → Bool
is_line_feed b = b == 10

-- each line ends at a line feed, and the last is what follows the last line feed
abbrev pub lines_of : List ℕ → List (List ℕ)
lines_of bytes = slice_split is_line_feed bytes

-- The last line needs no line feed if the script is at its end. If the script goes on past its limit, a limit is
-- reported in place of the line, and if a read failed, nothing.
abbrev pub last_body : Ending → List ℕ → Option Body
last_body ending.Whole last = body_of last
last_body ending.TooLong last = Some (Bad (Limit Script))
last_body ending.Failed last = None

-- a numbered line, if it has an answer
abbrev pub answered : ℕ → Option Body → List Line → List Line
answered number None more = more
answered number (Some body) more = record { number = number; body = body } ∷ more

abbrev pub numbered : Ending → ℕ → List (List ℕ) → List Line
numbered end number [] = []
numbered end number (last ∷ []) = answered number (last_body end last) []
numbered end number (line ∷ next ∷ more) = answered number (body_of line) (numbered end (number + 1) (next ∷ more))

-- the lines that have an answer, of lines that all end with a line feed
abbrev pub ended_lines : ℕ → List (List ℕ) → List Line
ended_lines number [] = []
ended_lines number (line ∷ more) = answered number (body_of line) (ended_lines (number + 1) more)

-- the lines that have an answer, of a script that ends so
abbrev pub lines_until : Ending → List ℕ → List Line
lines_until end bytes = numbered end 1 (lines_of bytes)

-- whether a script goes on past its limit
abbrev pub ending_of : List ℕ → Ending
ending_of script = if nat_le (length script) SCRIPT_BYTES then ending.Whole else ending.TooLong

-- the lines of a script that have an answer
abbrev pub script_of : List ℕ → List Line
script_of script = lines_until (ending_of script) (take SCRIPT_BYTES script)
