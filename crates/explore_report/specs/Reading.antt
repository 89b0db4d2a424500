-- What a script is found to be.
use Rattle.std.specs.Prelude.{◌≡◌, ◌<◌, ◌≤◌, ◌⊎◌, ℕ, List, length, map}
use Rattle.line_core.specs.Script.{lines_of}
use Rattle.line_core.specs.declared.script.TheConstants.{SCRIPT_BYTES}
use Rattle.explore_core.specs.Found.{CanBeExplored}
use Rattle.explore_report.specs.declared.cause.Cause.TheVariants as cause
use Rattle.explore_report.specs.declared.mistake.Mistake.{Mistake}
use Rattle.explore_report.specs.declared.plan_script.PlanScript.{PlanScript}
use Rattle.explore_report.specs.declared.plan_script.Reading.{Reading}
use Rattle.explore_report.specs.declared.plan_script.Reading.TheVariants as reading
use Rattle.explore_report.specs.declared.purpose.Purpose.{Purpose}
use Rattle.explore_report.specs.Expected.{expects_in}
use Rattle.explore_report.specs.Lines.{line_text}
use Rattle.explore_report.specs.Mistake.{IsMistake, IsPlan}
use Rattle.explore_report.specs.Plan.{plan_of}
use Rattle.explore_report.specs.Rows.{rows_of}
use Rattle.explore_report.specs.Turns.{line_number, plan_lines}

-- the script is short enough, and its lines, those of a `#repeat` in each round, make a plan
pub record IsPlanText (script : List ℕ) : Type 0 where
  pub short : length script ≤ SCRIPT_BYTES
  pub plan : IsPlan (rows_of (plan_lines (lines_of script)))

-- the script is a plan, which is exactly what its sections say for that purpose, and can be explored
pub record IsPlanOf (aim : Purpose) (script : List ℕ) (p : PlanScript) : Type 0 where
  pub valid : IsPlanText script
  pub purpose : p.purpose ≡ aim
  pub is : p.plan ≡ plan_of aim (plan_lines (lines_of script)) (rows_of (plan_lines (lines_of script)))
  pub explorable : CanBeExplored p.plan
  pub lines : map line_text p.lines.items ≡ plan_lines (lines_of script)
  pub rows : p.rows.items ≡ rows_of (plan_lines (lines_of script))
  pub expects : p.expects.items ≡ expects_in (plan_lines (lines_of script)) (rows_of (plan_lines (lines_of script)))

-- the script is too long; reported of its last line
pub record IsTooLong (script : List ℕ) (m : Mistake) : Type 0 where
  pub long : SCRIPT_BYTES < length script
  pub line : m.line ≡ length (lines_of script)
  pub why : m.cause ≡ cause.Bytes SCRIPT_BYTES

-- one of the plan's lines makes the script no plan; reported of the script's line that makes it
pub record IsWrongLine (script : List ℕ) (m : Mistake) : Type 0 where
  pub short : length script ≤ SCRIPT_BYTES
  pub wrong : Mistake
  pub found : IsMistake (rows_of (plan_lines (lines_of script))) (length (plan_lines (lines_of script))) wrong
  pub line : m.line ≡ line_number (lines_of script) wrong.line
  pub why : m.cause ≡ wrong.cause

-- the script is no plan: it is too long, or one of its lines makes it none; the first cause counts, and its first line
pub record IsNoPlan (script : List ℕ) (m : Mistake) : Type 0 where
  pub none : IsPlanText script → ⊥
  pub found : IsTooLong script m ⊎ IsWrongLine script m

abbrev pub IsReading : Purpose → List ℕ → Reading → Type 0
IsReading aim script (reading.Plan p) = IsPlanOf aim script p
IsReading aim script (reading.NoPlan m) = IsNoPlan script m
