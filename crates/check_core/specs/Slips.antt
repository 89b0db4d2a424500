-- Notes that are nearly `#= TEXT`: they look as if they expected an answer, and expect none.
use Rattle.std.specs.Prelude.{ℕ, ◌+◌, ◌==◌, ◌||◌, ◌&&◌, Bool, false, not, if◌then◌else◌, List, [], ◌∷◌, Option, None, Some, is_some, codes}
use Rattle.line_core.specs.Fronts.{strip_prefix}
use Rattle.line_core.specs.Line.{body_of}
use Rattle.check_core.specs.Expected.{expected_text}
use Rattle.check_core.specs.Tally.{one_if}

-- a `#`, a space or a tab
abbrev pub is_mark : ℕ → Bool
is_mark b = (b == 35) || (b == 32) || (b == 9)

-- the bytes behind these
abbrev pub drop_marks : List ℕ → List ℕ
drop_marks [] = []
drop_marks (b ∷ bytes) = if is_mark b then drop_marks bytes else b ∷ bytes

-- no `=` follows: more of them are an underline
abbrev pub is_single : Option (List ℕ) → Bool
is_single None = false
is_single (Some text) = not (is_some (strip_prefix text (codes "=")))

-- a note that expects nothing, though one `=` is behind its marks
abbrev pub is_slip : List ℕ → Bool
is_slip line =
    not (is_some (body_of line)) && not (is_some (expected_text line)) && is_single (strip_prefix (drop_marks line) (codes "="))

-- how many of these lines are slips
abbrev pub slip_count : List (List ℕ) → ℕ
slip_count [] = 0
slip_count (line ∷ lines) = one_if (is_slip line) + slip_count lines
