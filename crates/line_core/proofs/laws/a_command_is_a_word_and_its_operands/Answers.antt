use Rattle.line_core.proofs.Rows.{fit-row, no-row}
use Rattle.line_core.proofs.laws.a_command_is_a_word_and_its_operands.Goals as goal

pub returns : goal.returns
returns c = record {
  unknown = λ word words e. no-row word words e;
  known = λ word words form e. fit-row word words form e;
}
