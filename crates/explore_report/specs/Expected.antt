-- What the notes below a line expect of its answer.
use Rattle.std.specs.Prelude.{ℕ, ◌+◌, ◌-◌, not, Bool, true, false, if◌then◌else◌, List, [], ◌∷◌, ◌++◌, length, take, drop, option_map, position, slice_get, unwrap_or}
use Rattle.explore_core.specs.Right.{Right}
use Rattle.explore_core.specs.declared.expects.Expects.{Expects}
use Rattle.explore_core.specs.declared.expects.Expects.TheVariants.{Accepted, Texts}
use Rattle.explore_report.specs.declared.line.Line.{Line}
use Rattle.explore_report.specs.declared.mark.Mark.{Mark}
use Rattle.explore_report.specs.declared.mark.Mark.TheVariants as mark
use Rattle.explore_report.specs.declared.plan_script.PlanScript.{PlanScript}
use Rattle.explore_report.specs.declared.row.Row.{Row}
use Rattle.explore_report.specs.Lines.{line_text, text_at}
use Rattle.explore_report.specs.Mark.{expected_text}

-- a note that expects a line of an answer
abbrev pub is_expectation : Mark → Bool
is_expectation mark.Expected = true
is_expectation mark.OrExpected = true
is_expectation mark.OrBegins = true
is_expectation _ = false

abbrev pub expects : Row → Bool
expects row = is_expectation row.mark

-- a note `#|` or `#|..`, which begins another answer
abbrev pub is_beginning : Mark → Bool
is_beginning mark.OrExpected = true
is_beginning mark.OrBegins = true
is_beginning _ = false

abbrev pub begins_answer : Row → Bool
begins_answer row = is_beginning row.mark

-- a note `#|..`, whose answer may have more lines than the notes say
abbrev pub is_front : Mark → Bool
is_front mark.OrBegins = true
is_front _ = false

abbrev pub expects_front : Row → Bool
expects_front row = is_front row.mark

-- the rows up to the first that expects nothing
abbrev pub expecting : List Row → List Row
expecting rows = take (unwrap_or (position (λ row. not (expects row)) rows) (length rows)) rows

-- the notes directly below the row of that index: they expect its answer
abbrev pub expectations : List Row → ℕ → List Row
expectations rows index = expecting (drop (index + 1) rows)

-- the text that a note of a plan expects
abbrev pub expected : PlanScript → Row → List ℕ
expected p note = unwrap_or (option_map (λ (line : Line). expected_text (line_text line)) (slice_get p.lines.items (note.number - 1))) []

-- the line of an answer that a note expects, with its line feed
abbrev pub line_expected : List (List ℕ) → Row → List ℕ
line_expected lines note = expected_text (text_at lines note.number) ++ 10 ∷ []

-- the further lines of an answer: up to the note that begins another
abbrev pub more_lines : List (List ℕ) → List Row → List ℕ
more_lines lines [] = []
more_lines lines (note ∷ notes) = if begins_answer note then [] else line_expected lines note ++ more_lines lines notes

-- the answer whose first line a note expects, with these notes below it
abbrev pub right_from : List (List ℕ) → Row → List Row → Right
right_from lines note notes = record { text = line_expected lines note ++ more_lines lines notes; begins = expects_front note }

abbrev pub begun_at : List (List ℕ) → Row → List Row → List Right
begun_at lines note notes = if begins_answer note then right_from lines note notes ∷ [] else []

-- what a function gives of each element and the elements below it
abbrev pub with_below : {X Y : Type 0} → (X → List X → List Y) → List X → List Y
with_below f [] = []
with_below f (x ∷ xs) = f x xs ++ with_below f xs

-- the answers that `#|` and `#|..` begin
abbrev pub begun_answers : List (List ℕ) → List Row → List Right
begun_answers lines notes = with_below (begun_at lines) notes

-- the answers that the notes expect: the first one, and those that other notes begin
abbrev pub right_answers : List (List ℕ) → Row → List Row → List Right
right_answers lines note notes = right_from lines note notes ∷ begun_answers lines notes

-- by the notes below a line; without notes it is expected to be accepted
abbrev pub expects_of : List (List ℕ) → List Row → Expects
expects_of lines [] = Accepted
expects_of lines (note ∷ notes) = Texts (right_answers lines note notes)

-- what is expected of a line that has these rows below it
abbrev pub expects_below : List (List ℕ) → List Row → Expects
expects_below lines rows = expects_of lines (expecting rows)

abbrev pub expects_at : List (List ℕ) → Row → List Row → List Expects
expects_at lines row below = expects_below lines below ∷ []

-- what is expected of each row
abbrev pub expects_in : List (List ℕ) → List Row → List Expects
expects_in lines rows = with_below (expects_at lines) rows
