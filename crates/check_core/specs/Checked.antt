-- Lines that are checked one after another.
use Rattle.std.specs.Prelude.{◌≡◌, ℕ, ◌+◌, List, [], ◌∷◌, ◌++◌, length, drop, Option}
use Rattle.std.specs.Io.KnownBytes.{Keeps}
use Rattle.command_core.specs.declared.answer.Answer.{Answer}
use Rattle.desk_core.specs.theorem.Desk.{HasHistory}
use Rattle.line_core.specs.declared.line.Line.{Line}
use Rattle.line_core.specs.Script.{lines_of, script_of}
use Rattle.script_core.specs.Answering.{history_along}
use Rattle.script_core.specs.Output.{AreLineAnswers}
use Rattle.report_core.specs.Answer.{text_of}
use Rattle.check_core.specs.declared.checker.Checker.{Checker}
use Rattle.check_core.specs.declared.script_checker.ScriptChecker.{ScriptChecker}
use Rattle.check_core.specs.declared.tally.CheckTally.{CheckTally}
use Rattle.check_core.specs.Check.{ChecksScript, differences_of}
use Rattle.check_core.specs.Expected.{differs, expected_after, is_asked}
use Rattle.check_core.specs.Slips.{slip_count}
use Rattle.check_core.specs.Stage.{IsAt}
use Rattle.check_core.specs.Tally.{IsBelow, one_if}

-- ---- counts among the lines of a script

abbrev pub expected_at : List (List ℕ) → ℕ → List (List ℕ)
expected_at lines number = expected_after (drop number lines)

abbrev pub asked_among : List (List ℕ) → List Line → ℕ
asked_among lines [] = 0
asked_among lines (l ∷ ls) = one_if (is_asked (expected_at lines l.number)) + asked_among lines ls

abbrev pub differing_among : List (List ℕ) → List Line → List Answer → ℕ
differing_among lines [] given = 0
differing_among lines (l ∷ ls) [] = 0
differing_among lines (l ∷ ls) (a ∷ rest) =
    one_if (differs (expected_at lines l.number) (text_of l.number a)) + differing_among lines ls rest

-- all that is checked, of lines that stand among these
abbrev pub asked_of : List (List ℕ) → List Line → ℕ
asked_of lines ls = one_if (is_asked (expected_at lines 0)) + asked_among lines ls

abbrev pub differing_of : List (List ℕ) → List Line → List Answer → ℕ
differing_of lines ls given = one_if (differs (expected_at lines 0) []) + differing_among lines ls given

-- ---- the lines so far

-- The lines were checked. `said` are the lines among them that have an answer, and `expected` is expected so far of the last
-- of these answers.
pub record HasChecked (lines : List (List ℕ)) (said : List Line) (c : Checker) : Type 0 where
  pub answers : List Answer
  pub each : AreLineAnswers [] said answers
  pub stands : HasHistory c.desk (history_along [] said answers)
  pub expected : List (List ℕ)
  pub at : IsAt c.stage expected c.text.items
  pub counted : c.tally.lines ≡ length answers
  pub few : IsBelow c.tally (length lines + 1)
  pub checked : (more : List (List ℕ)) →
      asked_of (lines ++ more) said ≡ c.tally.checked + one_if (is_asked (expected ++ expected_after more))
  pub differing : (more : List (List ℕ)) →
      differing_of (lines ++ more) said answers ≡ c.tally.differing + one_if (differs (expected ++ expected_after more) c.text.items)

-- and their slips were counted; if none was found and no difference, nothing was written
pub record HasHandled (lines : List (List ℕ)) (said : List Line) (c : ScriptChecker) (old new : Option (List ℕ)) : Type 0 where
  pub so_far : HasChecked lines said c.checker
  pub slips : c.slips ≡ slip_count lines
  pub quiet : differences_of c.checker ≡ 0 → c.slips ≡ 0 → Keeps old new

-- the counts of the answers and of the slips
abbrev pub tally_of_checker : ScriptChecker → CheckTally
tally_of_checker c = record c.checker.tally { slips = c.slips }

-- the script of these lines is checked
pub record HasEnded (lines : List (List ℕ)) (said : List Line) (c : ScriptChecker) (old new : Option (List ℕ)) : Type 0 where
  pub checks : (script : List ℕ) → lines_of script ≡ lines → script_of script ≡ said → ChecksScript script (tally_of_checker c)
  pub quiet : c.checker.tally.differing ≡ 0 → c.slips ≡ 0 → Keeps old new
