-- What the notes of a script expect of its answers.
use Rattle.std.specs.Prelude.{◌≡◌, ℕ, Bool, true, false, not, if◌then◌else◌, List, [], ◌∷◌, ◌++◌, drop, Option, is_some, option_map, unwrap_or, codes}
use Rattle.std.specs.List.{flat_map}
use Rattle.std.specs.Option.{option_to_list}
use Rattle.std.specs.Str.{bytes_eq}
use Rattle.line_core.specs.Line.{body_of}
use Rattle.line_core.specs.Script.{lines_of}
use Rattle.line_core.specs.Fronts.{drop_spaces, strip_prefix}

-- A note whose first word begins with `#=` expects a line of output: its text is what follows, but for one space.
abbrev pub expected_text : List ℕ → Option (List ℕ)
expected_text line =
    option_map (λ text. unwrap_or (strip_prefix text (codes " ")) text) (strip_prefix (drop_spaces line) (codes "#="))

-- what the notes before the next line with an answer expect
abbrev pub expected_after : List (List ℕ) → List (List ℕ)
expected_after [] = []
expected_after (line ∷ more) =
    if is_some (body_of line) then [] else option_to_list (expected_text line) ++ expected_after more

-- The expected lines of the script's line of that number, from 1: its notes up to the next line that has an answer. The lines
-- of number 0 are above every line that has an answer.
abbrev pub expected_of : List ℕ → ℕ → List (List ℕ)
expected_of script number = expected_after (drop number (lines_of script))

-- a line of output
abbrev pub ended : List ℕ → List ℕ
ended line = line ++ 10 ∷ []

abbrev pub output_of_lines : List (List ℕ) → List ℕ
output_of_lines lines = flat_map ended lines

-- if lines are expected, these came, in order, and nothing else came
abbrev pub IsAsExpected : List (List ℕ) → List ℕ → Type 0
IsAsExpected [] text = Unit {0}
IsAsExpected (line ∷ more) text = text ≡ output_of_lines (line ∷ more)

abbrev pub is_asked : List (List ℕ) → Bool
is_asked [] = false
is_asked (line ∷ more) = true

abbrev pub differs : List (List ℕ) → List ℕ → Bool
differs [] text = false
differs (line ∷ more) text = not (bytes_eq text (output_of_lines (line ∷ more)))
