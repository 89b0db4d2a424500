-- The state of a run after its first lines.
use Rattle.std.specs.Prelude.{◌≡◌, Bool, ◌||◌, List, []}
use Rattle.std.specs.List.{list_any}
use Rattle.command_core.specs.declared.command.Command.{Command}
use Rattle.command_core.specs.declared.answer.Answer.{Answer}
use Rattle.line_core.specs.declared.line.Body.{Body}
use Rattle.line_core.specs.declared.line.Line.{Line}
use Rattle.desk_core.specs.theorem.Answer.{is_refused}
use Rattle.desk_core.specs.theorem.Desk.{DeskState, HasHistory}
use Rattle.script_core.specs.Output.{AreLineAnswers, IsLineAnswer, history_after_line}
use Rattle.script_core.specs.Answering.{history_along}
use Rattle.draw_core.specs.declared.window.Window.{Window}
use Rattle.draw_core.specs.Shown.{lines_run}

-- The lines `done` are run: each up to the window's last has its answer, the desk has the history that these answers make, and
-- it is known whether one of them is a refusal.
pub record HasRun (window : Window) (done : List Line) (desk : DeskState) (refused : Bool) : Type 0 where
  pub given : List Answer
  pub answers : AreLineAnswers [] (lines_run window done) given
  pub stands : HasHistory desk (history_along [] (lines_run window done) given)
  pub refusals : refused ≡ list_any is_refused given

-- a line has its answer, and it is known whether this answer or an earlier one is a refusal
pub record Answers (body : Body) (before after : DeskState) (old new : Bool) : Type 0 where
  pub given : Answer
  pub is : (history : List Command) → HasHistory before history → IsLineAnswer history body given
  pub stands : (history : List Command) → HasHistory before history → HasHistory after (history_after_line history body given)
  pub refused : new ≡ (is_refused given || old)
