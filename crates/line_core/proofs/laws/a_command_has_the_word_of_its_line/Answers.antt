use Rattle.line_core.proofs.Rows.{has_word}
use Rattle.line_core.proofs.laws.a_command_has_the_word_of_its_line.Goals as goal

pub returns : goal.returns
returns c = record { word = λ word words command e. has_word word words command e }
