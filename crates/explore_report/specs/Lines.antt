-- The texts of lines.
use Rattle.std.specs.Prelude.{ℕ, ◌-◌, List, [], map, slice_get, unwrap_or}
use Rattle.std.specs.Borrow.{Bor}
use Rattle.explore_report.specs.declared.line.Line.{Line}
use Rattle.explore_report.specs.declared.line.Text.{Text}
use Rattle.explore_report.specs.declared.line.Text.TheVariants as text

abbrev pub text_read : Text → List ℕ
text_read (text.Read bytes) = bytes.now
text_read (text.Filled bytes) = bytes.items

abbrev pub line_text : Line → List ℕ
line_text line = text_read line.text

-- the text of the line of that number
abbrev pub text_at : List (List ℕ) → ℕ → List ℕ
text_at lines number = unwrap_or (slice_get lines (number - 1)) []

-- the texts of borrowed lines
abbrev pub texts_of : List (Bor (List ℕ)) → List (List ℕ)
texts_of lines = map (λ (line : Bor (List ℕ)). line.now) lines
