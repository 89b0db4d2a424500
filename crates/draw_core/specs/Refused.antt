-- Whether a line of a run was refused.
use Rattle.std.specs.Prelude.{◌≡◌, Bool, List, []}
use Rattle.std.specs.List.{list_any}
use Rattle.command_core.specs.declared.answer.Answer.{Answer}
use Rattle.line_core.specs.declared.line.Line.{Line}
use Rattle.desk_core.specs.theorem.Answer.{is_refused}
use Rattle.script_core.specs.Output.{AreLineAnswers}
use Rattle.draw_core.specs.declared.drawing.Drawing.{Drawing}
use Rattle.draw_core.specs.declared.run.Run.{Run}
use Rattle.draw_core.specs.declared.window.Window.{Window}
use Rattle.draw_core.specs.Shown.{lines_run}

-- the answers of the lines up to the window's last are such that one is a refusal, or none is
pub record HasRefused (window : Window) (lines : List Line) (refused : Bool) : Type 0 where
  pub given : List Answer
  pub answers : AreLineAnswers [] (lines_run window lines) given
  pub is : refused ≡ list_any is_refused given

-- what a run's history says
abbrev pub run_refused : Run → Bool
run_refused run = run.history.refused

abbrev pub drawing_refused : Drawing → Bool
drawing_refused drawing = run_refused drawing.run
