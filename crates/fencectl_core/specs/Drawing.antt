-- The exit status of a drawing.
use Rattle.std.specs.Prelude.{◌≡◌, ℕ, nat_lt, Bool, true, false, if◌then◌else◌, List, [], length, is_some}
use Rattle.std.specs.List.{list_any}
use Rattle.command_core.specs.declared.answer.Answer.{Answer}
use Rattle.desk_core.specs.theorem.Answer.{is_refused}
use Rattle.line_core.specs.Script.{script_of}
use Rattle.script_core.specs.Output.{AreLineAnswers}
use Rattle.draw_core.specs.declared.run.TheConstants.{COLUMNS}
use Rattle.draw_core.specs.declared.window.Window.{Window}
use Rattle.draw_core.specs.Shown.{lines_run}
use Rattle.fencectl_core.specs.declared.action.Draw.{Draw}

-- a picture of more than `COLUMNS` lines needs a choice of lines; a graph has no columns
abbrev pub is_too_long : Draw → List ℕ → Bool
is_too_long asked script =
    if asked.graph then false
    else if is_some asked.lines then false
    else nat_lt COLUMNS (length (script_of script))

-- 1 if a line up to the window's last was refused, else 0
pub record IsRunStatus (window : Window) (script : List ℕ) (status : ℕ) : Type 0 where
  pub given : List Answer
  pub answers : AreLineAnswers [] (lines_run window (script_of script)) given
  pub is : status ≡ (if list_any is_refused given then 1 else 0)

-- 2 if the script has too many lines for a picture, else by its run
pub record IsDrawStatus (asked : Draw) (window : Window) (script : List ℕ) (status : ℕ) : Type 0 where
  pub long : is_too_long asked script ≡ true → status ≡ 2
  pub run : is_too_long asked script ≡ false → IsRunStatus window script status
