-- The answer of a line, and its text.
use Rattle.std.specs.Prelude.{◌≡◌, ℕ, List}
use Rattle.command_core.specs.declared.command.Command.{Command}
use Rattle.command_core.specs.declared.answer.Answer.{Answer}
use Rattle.desk_core.specs.theorem.Desk.{DeskState, HasHistory}
use Rattle.line_core.specs.declared.line.Body.{Body}
use Rattle.script_core.specs.Output.{IsLineAnswer, history_after_line}
use Rattle.report_core.specs.Answer.{text_of}

-- the desk answered a line, and this is the answer's text
pub record AnswersInto (desk desk' : DeskState) (number : ℕ) (body : Body) (text : List ℕ) : Type 0 where
  pub given : Answer
  pub is : (history : List Command) → HasHistory desk history → IsLineAnswer history body given
  pub stands : (history : List Command) → HasHistory desk history → HasHistory desk' (history_after_line history body given)
  pub text_is : text ≡ text_of number given
