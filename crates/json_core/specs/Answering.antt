-- The lines of a script that are answered with objects.
use Rattle.std.specs.Prelude.{◌≡◌, ◌+◌, ◌≤◌, ◌⊎◌, ℕ, if◌then◌else◌, List, [], length, Option}
use Rattle.point_core.specs.declared.refusal.Refusal.{Refusal}
use Rattle.point_core.specs.declared.refusal.Refusal.TheVariants.{Write as WriteFault, Memory}
use Rattle.command_core.specs.declared.command.Command.{Command}
use Rattle.command_core.specs.declared.answer.Answer.{Answer}
use Rattle.desk_core.specs.theorem.Answer.{is_refused}
use Rattle.desk_core.specs.theorem.Desk.{DeskState, HasHistory}
use Rattle.line_core.specs.declared.line.Body.{Body}
use Rattle.line_core.specs.declared.line.Line.{Line}
use Rattle.script_core.specs.declared.totals.Totals.{Totals}
use Rattle.script_core.specs.Answering.{history_along}
use Rattle.script_core.specs.Output.{AreLineAnswers, Counts, Grows, IsLineAnswer, history_after_line}

-- one line has its answer, which was counted
pub record AnswersLine (body : Body) (before after : DeskState) (counted totals : Totals) : Type 0 where
  pub given : Answer
  pub is : (history : List Command) → HasHistory before history → IsLineAnswer history body given
  pub stands : (history : List Command) → HasHistory before history → HasHistory after (history_after_line history body given)
  pub lines : totals.lines ≡ counted.lines + 1
  pub refused : totals.refused ≡ counted.refused + (if is_refused given then 1 else 0)

-- the lines `said` of the first `lines` of a script have their answers, one after another, and these were counted
pub record HasAnswered (lines : List (List ℕ)) (said : List Line) (desk : DeskState) (totals : Totals)
    (old new : Option (List ℕ)) : Type 0 where
  pub given : List Answer
  pub each : AreLineAnswers [] said given
  pub stands : HasHistory desk (history_along [] said given)
  pub counts : Counts totals given
  pub few : totals.lines ≤ length lines
  pub grows : Grows old new

-- a write or an allocation failed, and no byte that was written is taken back
pub record HasStopped (refusal : Refusal) (old new : Option (List ℕ)) : Type 0 where
  pub is : (refusal ≡ WriteFault) ⊎ (refusal ≡ Memory)
  pub grows : Grows old new

-- each line in `said` has its answer, one after another, and these were counted
pub record CountsAnswers (said : List Line) (totals : Totals) : Type 0 where
  pub given : List Answer
  pub each : AreLineAnswers [] said given
  pub counts : Counts totals given
