-- What a check of a script finds.
use Rattle.std.specs.Prelude.{◌≡◌, ◌↔◌, ℕ, ◌+◌, ◌<◌, List, [], ◌∷◌, ◌++◌, length, Option, None, Some, option_to_list}
use Rattle.std.specs.Io.KnownBytes.{Consumes, Keeps}
use Rattle.command_core.specs.declared.answer.Answer.{Answer}
use Rattle.desk_core.specs.theorem.Desk.{HasHistory}
use Rattle.line_core.specs.declared.line.Body.{Body}
use Rattle.line_core.specs.declared.line.Line.{Line}
use Rattle.line_core.specs.declared.script.Ending.TheVariants.{Whole}
use Rattle.line_core.specs.declared.script.TheConstants.{SCRIPT_BYTES}
use Rattle.script_core.specs.Output.{AreLineAnswers}
use Rattle.line_core.specs.Script.{lines_of, lines_until, script_of}
use Rattle.report_core.specs.Answer.{text_of}
use Rattle.check_core.specs.declared.checker.Checker.{Checker}
use Rattle.check_core.specs.declared.stage.MatchStage.TheVariants.{Unasked}
use Rattle.check_core.specs.declared.tally.CheckTally.{CheckTally}
use Rattle.check_core.specs.Answering.{AnswersInto}
use Rattle.check_core.specs.Expected.{expected_of, IsAsExpected, is_asked, differs}
use Rattle.check_core.specs.Slips.{slip_count}
use Rattle.check_core.specs.Stage.{is_different, IsAt}
use Rattle.check_core.specs.Tally.{one_if, IsEmpty}

-- each answer's text is as expected of its line
abbrev pub AreAsExpected : List ℕ → List Line → List Answer → Type 0
AreAsExpected script [] given = Unit {0}
AreAsExpected script (l ∷ ls) [] = Unit {0}
AreAsExpected script (l ∷ ls) (a ∷ rest) =
    IsAsExpected (expected_of script l.number) (text_of l.number a) × AreAsExpected script ls rest

-- Each expected line is the one that came. Above the first command nothing comes.
abbrev pub AgreesWith : List ℕ → List Answer → Type 0
AgreesWith script given = IsAsExpected (expected_of script 0) [] × AreAsExpected script (script_of script) given

-- Each line of a text has its answer, and each expected line is the one that came, whatever the text's length.
pub record AnswersAsExpected (text : List ℕ) : Type 0 where
  pub given : List Answer
  pub each : AreLineAnswers [] (lines_until Whole text) given
  pub first : IsAsExpected (expected_of text 0) []
  pub all : AreAsExpected text (lines_until Whole text) given

-- how many of the lines are checked
abbrev pub asked_count : List ℕ → List Line → ℕ
asked_count script [] = 0
asked_count script (l ∷ ls) = one_if (is_asked (expected_of script l.number)) + asked_count script ls

-- how many of the answers are other than expected
abbrev pub differing_count : List ℕ → List Line → List Answer → ℕ
differing_count script [] given = 0
differing_count script (l ∷ ls) [] = 0
differing_count script (l ∷ ls) (a ∷ rest) =
    one_if (differs (expected_of script l.number) (text_of l.number a)) + differing_count script ls rest

-- The script was checked: each of its lines has its answer, and of these were counted how many there are, of how many lines
-- are expected, and of how many other lines came. None of them differs exactly if each expected line is the one that came.
-- Its slips were counted too.
pub record ChecksScript (script : List ℕ) (tally : CheckTally) : Type 0 where
  pub given : List Answer
  pub each : AreLineAnswers [] (script_of script) given
  pub lines : tally.lines ≡ length given
  pub checked : tally.checked ≡ one_if (is_asked (expected_of script 0)) + asked_count script (script_of script)
  pub differing : tally.differing ≡
      one_if (differs (expected_of script 0) []) + differing_count script (script_of script) given
  pub agrees : (tally.differing ≡ 0) ↔ AgreesWith script given
  pub slips : tally.slips ≡ slip_count (lines_of script)

-- more bytes were read than a script may have
pub record IsTooLong (old new : Option (List ℕ)) : Type 0 where
  pub bytes : List ℕ
  pub consumed : Consumes old new bytes
  pub long : SCRIPT_BYTES < length bytes

-- one text was compared
pub record IsJudged (tally tally' : CheckTally) (expected : List (List ℕ)) (text : List ℕ) : Type 0 where
  pub lines : tally'.lines ≡ tally.lines
  pub checked : tally'.checked ≡ tally.checked + one_if (is_asked expected)
  pub differing : tally'.differing ≡ tally.differing + one_if (differs expected text)

-- Of what is checked so far nothing is answered, and nothing expected.
pub record IsFresh (c : Checker) : Type 0 where
  pub stands : HasHistory c.desk []
  pub tally : IsEmpty c.tally
  pub text : c.text.items ≡ []
  pub stage : c.stage ≡ Unasked

-- how many differences were found so far, with the last answer's
abbrev pub differences_of : Checker → ℕ
differences_of c = c.tally.differing + one_if (is_different c.stage)

-- Where this many differences are none, there was none before, and nothing was written since.
abbrev pub IsQuiet : Checker → ℕ → Option (List ℕ) → Option (List ℕ) → Type 0
IsQuiet c differences old new = differences ≡ 0 → (differences_of c ≡ 0) × Keeps old new

-- ---- the steps from line to line

-- these lines more are expected of the last answer
pub record Expects (c c' : Checker) (lines : List (List ℕ)) : Type 0 where
  pub desk : c'.desk ≡ c.desk
  pub tally : c'.tally ≡ c.tally
  pub text : c'.text.items ≡ c.text.items
  pub at : (expected : List (List ℕ)) → IsAt c.stage expected c.text.items → IsAt c'.stage (expected ++ lines) c.text.items

-- no more is expected of the last answer, and it was counted
pub record IsJudgedAt (c c' : Checker) : Type 0 where
  pub desk : c'.desk ≡ c.desk
  pub judged : (expected : List (List ℕ)) → IsAt c.stage expected c.text.items → IsJudged c.tally c'.tally expected c.text.items

-- a line was answered, and nothing is expected of it yet
pub record IsOpened (c c' : Checker) (number : ℕ) (body : Body) : Type 0 where
  pub answered : AnswersInto c.desk c'.desk number body c'.text.items
  pub stage : c'.stage ≡ Unasked
  pub lines : c'.tally.lines ≡ c.tally.lines + 1
  pub checked : c'.tally.checked ≡ c.tally.checked
  pub differing : c'.tally.differing ≡ c.tally.differing

-- a line was answered, the answer before it being counted
pub record IsAnswered (c c' : Checker) (number : ℕ) (body : Body) : Type 0 where
  pub between : Checker
  pub judged : IsJudgedAt c between
  pub opened : IsOpened between c' number body

-- the next line, by what it says and what it expects
abbrev pub IsTaken : Checker → Checker → ℕ → Option Body → Option (List ℕ) → Type 0
IsTaken c c' number None line = Expects c c' (option_to_list line)
IsTaken c c' number (Some body) line = IsAnswered c c' number body

-- the last line was taken, and the last answer counted
pub record IsEnded (c c' : Checker) (number : ℕ) (body : Option Body) (line : Option (List ℕ)) : Type 0 where
  pub between : Checker
  pub taken : IsTaken c between number body line
  pub judged : IsJudgedAt between c'
