-- The lines of a script, one by one.
use Rattle.std.proofs.Common.{◌≡◌, ℕ, ◌+◌, ◌<◌, List, [], ◌∷◌, length, Option, Some, refl, ap, ◌∙◌, arith}
use Rattle.std.proofs.lemmas.List.Splits.{length-slice_split}
use Rattle.line_core.specs.declared.line.Body.{Body}
use Rattle.line_core.specs.declared.script.Ending.{Ending}
use Rattle.line_core.specs.Line.{body_of}
use Rattle.line_core.specs.Lines.{lines_before}
use Rattle.line_core.specs.Script.{is_line_feed, lines_of, answered, numbered}

pub numbered-cons : (end : Ending) (number : ℕ) (line : List ℕ) (more : List (List ℕ)) → 0 < length more → numbered end number (line ∷ more) ≡ answered number (body_of line) (numbered end (number + 1) more)
numbered-cons end number line [] h = absurd (omega arith)
numbered-cons end number line (next ∷ more) h = refl

-- a line that ends at a line feed
pub numbered-line : (end : Ending) (number : ℕ) (bytes line rest : List ℕ) → lines_of bytes ≡ line ∷ lines_of rest → numbered end number (lines_of bytes) ≡ answered number (body_of line) (numbered end (number + 1) (lines_of rest))
numbered-line end number bytes line rest e = ap (numbered end number) e ∙ numbered-cons end number line (lines_of rest) (omega (arith, length-slice_split is_line_feed rest))

-- a line that ends at a line feed, of the lines to come
pub lines_before-line : (o : Option Ending) (end : Ending) (number : ℕ) (bytes line rest : List ℕ) (body : Option Body) → o ≡ Some end → lines_of bytes ≡ line ∷ lines_of rest → body ≡ body_of line → lines_before o number bytes ≡ answered number body (lines_before o (number + 1) rest)
lines_before-line o end number bytes line rest body s e f = rw (s, f) (numbered-line end number bytes line rest e)
