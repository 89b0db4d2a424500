-- A line of a script that is cut out of the script's bytes.
use Rattle.std.specs.Prelude.{ℕ, ◌+◌, if◌then◌else◌, List, [], ◌∷◌, ◌++◌, take, Option, None, option_map}
use Rattle.line_core.specs.declared.cutter.TheConstants.{HELD_BYTES}
use Rattle.line_core.specs.declared.line.Line.{Line}
use Rattle.line_core.specs.Line.{body_of}
use Rattle.line_core.specs.Script.{is_line_feed}

-- the bytes of a line that are kept: HELD_BYTES show that the line is too long
abbrev pub cut : List ℕ → List ℕ
cut line = take HELD_BYTES line

-- a line: its number, and the bytes that are kept of it
pub record OpenLine : Type 0 where
  pub number : ℕ
  pub bytes : List ℕ

-- the line, if it has an answer
abbrev pub line_of : OpenLine → Option Line
line_of l = option_map (λ body. record { number = l.number; body = body }) (body_of l.bytes)

-- the line after it
abbrev pub next_line : OpenLine → OpenLine
next_line l = record { number = l.number + 1; bytes = [] }

-- the line with more bytes
abbrev pub with_bytes : OpenLine → List ℕ → OpenLine
with_bytes l bytes = record { number = l.number; bytes = cut (l.bytes ++ bytes) }

-- the line that one more byte returns, and the line that is held after it
abbrev pub line_at : OpenLine → ℕ → Option Line
line_at l byte = if is_line_feed byte then line_of l else None

abbrev pub line_after : OpenLine → ℕ → OpenLine
line_after l byte = if is_line_feed byte then next_line l else with_bytes l (byte ∷ [])
