-- Which answers a script expects, and which ones its update does.
use Rattle.std.specs.Prelude.{ℕ, ◌||◌, Bool, false, not, if◌then◌else◌, List, [], ◌∷◌, ◌++◌, is_some}
use Rattle.std.specs.List.{list_any}
use Rattle.line_core.specs.Line.{body_of}
use Rattle.line_core.specs.Script.{lines_of}
use Rattle.check_core.specs.Expected.{expected_after, is_asked}
use Rattle.check_core.specs.Kept.{is_expectation}

-- of a line, by the lines below it: if it has an answer, whether notes expect lines of this answer, or all answers are expected
abbrev pub asked_at : Bool → List ℕ → List (List ℕ) → List Bool
asked_at all line below = if is_some (body_of line) then (all || is_asked (expected_after below)) ∷ [] else []

-- of each line that has an answer, in order
abbrev pub asked_in : Bool → List (List ℕ) → List Bool
asked_in all [] = []
asked_in all (line ∷ below) = asked_at all line below ++ asked_in all below

-- which answers a script expects
abbrev pub asked : List ℕ → List Bool
asked script = asked_in false (lines_of script)

-- whether a note of the script expects a line
abbrev pub expects : List ℕ → Bool
expects script = list_any is_expectation (lines_of script)

-- which answers the script's update expects: the ones that the script expects, or each if it expects nothing
abbrev pub asked_by_update : List ℕ → List Bool
asked_by_update script = asked_in (not (expects script)) (lines_of script)
