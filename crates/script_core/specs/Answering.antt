-- Lines that are answered one after another.
use Rattle.std.specs.Prelude.{◌≡◌, ℕ, List, [], ◌∷◌, ◌++◌, Option}
use Rattle.std.specs.Io.KnownBytes.{Appends}
use Rattle.point_core.specs.declared.refusal.Refusal.{Refusal}
use Rattle.command_core.specs.declared.command.Command.{Command}
use Rattle.command_core.specs.declared.answer.Answer.{Answer}
use Rattle.desk_core.specs.theorem.Desk.{DeskState, HasHistory}
use Rattle.line_core.specs.declared.line.Line.{Line}
use Rattle.script_core.specs.declared.totals.Totals.{Totals}
use Rattle.report_core.specs.Bytes.{PassesOn}
use Rattle.report_core.specs.Answer.{text_of}
use Rattle.script_core.specs.Output.{history_after_line, IsLineAnswer, AreLineAnswers, refusal_of, texts_of, WritesAnswers, WritesPrefix, Counts}

-- the history after lines with these answers
abbrev pub history_along : List Command → List Line → List Answer → List Command
history_along history [] given = history
history_along history (l ∷ ls) [] = history
history_along history (l ∷ ls) (a ∷ rest) = history_along (history_after_line history l.body a) ls rest

-- the lines `done` are answered: their texts are written, but for the texts in `out`
pub record Progress (done : List Line) (desk : DeskState) (out : List ℕ) (totals : Totals)
    (old new : Option (List ℕ)) : Type 0 where
  pub given : List Answer
  pub each : AreLineAnswers [] done given
  pub stands : HasHistory desk (history_along [] done given)
  pub front : List ℕ
  pub texts : texts_of done given ≡ front ++ out
  pub appended : Appends old new front
  pub counts : Counts totals given

-- a desk, the text of its last answers, and the number of its answers
pub record AnswersState : Type 0 where
  pub desk : DeskState
  pub out : List ℕ
  pub totals : Totals

-- the lines `done` are answered
abbrev pub HasAnswered : List Line → AnswersState → Option (List ℕ) → Option (List ℕ) → Type 0
HasAnswered done s old new = Progress done s.desk s.out s.totals old new

-- these lines are answered after any that were
abbrev pub AnswersMore : List Line → AnswersState → AnswersState → Option (List ℕ) → Option (List ℕ) → Type 0
AnswersMore lines before after old new = (done : List Line) → (start : Option (List ℕ)) →
    HasAnswered done before start old → HasAnswered (done ++ lines) after start new

-- a prefix is written of the answers of the lines that were answered, and of these lines after them
abbrev pub AnswersFront : List Line → AnswersState → Option (List ℕ) → Option (List ℕ) → Type 0
AnswersFront lines before old new = (done : List Line) → (start : Option (List ℕ)) →
    HasAnswered done before start old → WritesPrefix (done ++ lines) start new

-- One line was answered: the text of its answer was appended to the pending output, and `refused` is the answer's
-- refusal, if any.
pub record AnswersLine (l : Line) (refused : Option Refusal) (before after : AnswersState)
    (old new : Option (List ℕ)) : Type 0 where
  pub given : Answer
  pub is : (history : List Command) → HasHistory before.desk history → IsLineAnswer history l.body given
  pub stands : (history : List Command) → HasHistory before.desk history
      → HasHistory after.desk (history_after_line history l.body given)
  pub passed : PassesOn before.out after.out (text_of l.number given) old new
  pub refusal : refusal_of given ≡ refused

-- the lines were answered, and the totals count them
pub record AnswersLines (lines : List Line) (totals : Totals) (old new : Option (List ℕ)) : Type 0 where
  pub given : List Answer
  pub answers : WritesAnswers lines given old new
  pub counts : Counts totals given
