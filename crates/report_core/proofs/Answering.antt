-- The text of an answer is its first line and its other lines.
use Rattle.std.proofs.Common.{◌≡◌, ℕ, ◌++◌, refl, sym, append-nil}
use Rattle.command_core.specs.declared.answer.Answer.{Answer}
use Rattle.command_core.specs.declared.answer.Answer.TheVariants as answer
use Rattle.report_core.specs.Answer.{text_of, first_line_of, rows_of}

pub text-lines : (number : ℕ) (given : Answer) → text_of number given ≡ first_line_of number given ++ rows_of given
text-lines number answer.Done = sym (append-nil (first_line_of number answer.Done))
text-lines number (answer.Value n) = sym (append-nil (first_line_of number (answer.Value n)))
text-lines number (answer.Raised value fired) = refl
text-lines number (answer.Info info) = refl
text-lines number (answer.Show rows) = refl
text-lines number (answer.Report tables) = refl
text-lines number (answer.Refused r) = sym (append-nil (first_line_of number (answer.Refused r)))
