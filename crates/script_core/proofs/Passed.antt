-- A line that was answered, and whose answer was passed on.
use Rattle.std.proofs.Common.{◌≡◌, ◌+◌, ◌++◌, ℕ, List, [], ◌∷◌, Option, if◌then◌else◌, refl}
use Rattle.command_core.specs.declared.command.Command.{Command}
use Rattle.command_core.specs.declared.answer.Answer.{Answer}
use Rattle.desk_core.specs.theorem.Answer.{is_refused}
use Rattle.desk_core.specs.theorem.Desk.{HasHistory}
use Rattle.line_core.specs.declared.line.Body.{Body}
use Rattle.line_core.specs.declared.line.Line.{Line}
use Rattle.report_core.specs.Answer.{text_of}
use Rattle.report_core.specs.Bytes.{AppendsFront, PassesOn}
use Rattle.script_core.specs.Answering.{AnswersState, AnswersFront, AnswersMore}
use Rattle.script_core.specs.Output.{IsLineAnswer, history_after_line}
use Rattle.script_core.proofs.Progress.{Progress-line, Progress-write, Progress-unwritten}

module _ (number : ℕ) (body : Body) (given : Answer) (before : AnswersState) (old new : Option (List ℕ))
    (is : (history : List Command) → HasHistory before.desk history → IsLineAnswer history body given) where
  line : Line
  line = record { number = number; body = body }

  -- the answer was counted, and its text was passed on
  pub AnswersMore-passed : (after : AnswersState) → ((history : List Command) → HasHistory before.desk history → HasHistory after.desk (history_after_line history body given))
      → after.totals.lines ≡ before.totals.lines + 1
      → after.totals.refused ≡ before.totals.refused + (if is_refused given then 1 else 0)
      → PassesOn before.out after.out (text_of number given) old new
      → AnswersMore (record { number = number; body = body } ∷ []) before after old new
  unfolding line
  AnswersMore-passed after stands lines counted w done start h =
      let text = before.out ++ text_of number given in
      let more = Progress-line done before.desk after.desk before.out text before.totals after.totals start old line given h is stands refl lines counted in
      Progress-write (done ++ line ∷ []) after.desk text after.out after.totals start old new more (w.written, w.whole, w.appended)

  -- a prefix of what was pending was written, and of the text
  pub AnswersFront-stopped : AppendsFront old new (before.out ++ text_of number given) → AnswersFront (record { number = number; body = body } ∷ []) before old new
  unfolding line
  AnswersFront-stopped f done start h = Progress-unwritten done before.desk before.out before.totals start old new line given h is f
