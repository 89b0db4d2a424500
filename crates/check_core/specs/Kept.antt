-- The part of a script that an update keeps.
use Rattle.std.specs.Prelude.{ℕ, ◌&&◌, Bool, not, if◌then◌else◌, List, [], ◌∷◌, filter, is_some}
use Rattle.std.specs.List.{join_with_byte}
use Rattle.line_core.specs.Line.{body_of}
use Rattle.line_core.specs.Script.{lines_of}
use Rattle.check_core.specs.Expected.{expected_text}

-- whether a line is a note that expects a line of an answer
abbrev pub is_expectation : List ℕ → Bool
is_expectation line = is_some (expected_text line) && not (is_some (body_of line))

-- all lines but these notes
abbrev pub kept_lines : List (List ℕ) → List (List ℕ)
kept_lines lines = filter (λ line. not (is_expectation line)) lines

-- the script without these notes: its other lines, with a line feed between each two
abbrev pub kept : List ℕ → List ℕ
kept script = join_with_byte 10 (kept_lines (lines_of script))

-- a line that is kept, behind a line feed
abbrev pub kept_line : List ℕ → List ℕ
kept_line line = if is_expectation line then [] else 10 ∷ line
