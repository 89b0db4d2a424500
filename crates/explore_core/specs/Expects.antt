-- Which answers are expected of a line.
use Rattle.std.specs.Prelude.{not, Bool, true}
use Rattle.std.specs.List.{list_any}
use Rattle.command_core.specs.declared.answer.Answer.{Answer}
use Rattle.desk_core.specs.theorem.Answer.{is_refused}
use Rattle.report_core.specs.Answer.{text_of}
use Rattle.explore_core.specs.declared.expects.Expects.{Expects}
use Rattle.explore_core.specs.declared.expects.Expects.TheVariants as expects
use Rattle.explore_core.specs.Right.{is_right}

-- the answer is expected
abbrev pub is_expected : Answer → Expects → Bool
is_expected given expects.Any = true
is_expected given expects.Accepted = not (is_refused given)
is_expected given (expects.Texts answers) = list_any (is_right (text_of 0 given)) answers
