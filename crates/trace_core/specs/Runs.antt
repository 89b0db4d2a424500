-- Classes of bytes.
use Rattle.std.specs.Prelude.{ℕ, ◌==◌, Bool, not, ◌||◌}
use Rattle.std.specs.Char.{is_ascii_digit}
use Rattle.trace_core.specs.declared.runs.Class.{Class}
use Rattle.trace_core.specs.declared.runs.Class.TheVariants.{Digit, Blank, Dark, Word, Group}

-- 32 is the blank
abbrev pub is_blank : ℕ → Bool
is_blank b = b == 32

-- 58 is the colon, and 45 the dash
abbrev pub is_of : Class → ℕ → Bool
is_of Digit b = is_ascii_digit b
is_of Blank b = is_blank b
is_of Dark b = not (is_blank b)
is_of Word b = not (b == 58)
is_of Group b = is_blank b || b == 45 || is_ascii_digit b
