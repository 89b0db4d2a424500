-- The output of a script.
use Rattle.std.specs.Prelude.{◌≡◌, ◌≢◌, ◌≤◌, ℕ, List, [], ◌∷◌, ◌++◌, length, Option, None, Some, count_by}
use Rattle.std.specs.List.{AllByRecursion}
use Rattle.std.specs.Io.KnownBytes.{Appends, Consumes}
use Rattle.point_core.specs.declared.refusal.Refusal.{Refusal}
use Rattle.point_core.specs.declared.refusal.Refusal.TheVariants.{Memory}
use Rattle.command_core.specs.declared.command.Command.{Command}
use Rattle.command_core.specs.declared.answer.Answer.{Answer}
use Rattle.command_core.specs.declared.answer.Answer.TheVariants as answer
use Rattle.desk_core.specs.theorem.Answer.{answer_to, is_refused}
use Rattle.desk_core.specs.theorem.History.{world_of, IsAnswer, history_after}
use Rattle.script_core.specs.declared.totals.Totals.{Totals}
use Rattle.line_core.specs.declared.line.Body.{Body}
use Rattle.line_core.specs.declared.line.Body.TheVariants.{Cmd, Bad}
use Rattle.line_core.specs.declared.line.Line.{Line}
use Rattle.report_core.specs.Bytes.{AppendsFront}
use Rattle.line_core.specs.declared.script.Ending.TheVariants as ending
use Rattle.line_core.specs.declared.script.TheConstants.{SCRIPT_BYTES}
use Rattle.line_core.specs.Reading.{IsInput}
use Rattle.line_core.specs.Script.{script_of, lines_until}
use Rattle.report_core.specs.Answer.{text_of}

-- the unique answer of a line
abbrev pub answer_of_line : List Command → Body → Answer
answer_of_line history (Cmd command) = answer_to (world_of history) command
answer_of_line history (Bad refusal) = answer.Refused refusal

-- the history after a line with this answer
abbrev pub history_after_line : List Command → Body → Answer → List Command
history_after_line history (Cmd command) given = history_after history command given
history_after_line history (Bad refusal) given = history

abbrev pub output_from : List Command → List Line → List ℕ
output_from history [] = []
output_from history (l ∷ ls) =
    let given = answer_of_line history l.body in
    text_of l.number given ++ output_from (history_after_line history l.body given) ls

-- the output of a script: the texts of its lines' answers, the history growing by each accepted command
abbrev pub output_of : List ℕ → List ℕ
output_of script = output_from [] (script_of script)

-- the unique answer of the line, or Memory for a command that isn't refused
abbrev pub IsLineAnswer : List Command → Body → Answer → Type 0
IsLineAnswer history (Cmd command) given = IsAnswer history command given
IsLineAnswer history (Bad refusal) given = given ≡ answer.Refused refusal

-- each line has its answer, one after another
abbrev pub AreLineAnswers : List Command → List Line → List Answer → Type 0
AreLineAnswers history [] [] = Unit {0}
AreLineAnswers history [] (a ∷ rest) = ⊥
AreLineAnswers history (l ∷ ls) [] = ⊥
AreLineAnswers history (l ∷ ls) (a ∷ rest) =
    IsLineAnswer history l.body a × AreLineAnswers (history_after_line history l.body a) ls rest

-- the refusal, if the answer is one
abbrev pub refusal_of : Answer → Option Refusal
refusal_of (answer.Refused refusal) = Some refusal
refusal_of _ = None

abbrev pub texts_of : List Line → List Answer → List ℕ
texts_of [] given = []
texts_of (l ∷ ls) [] = []
texts_of (l ∷ ls) (a ∷ rest) = text_of l.number a ++ texts_of ls rest

abbrev pub NoneIsMemory : List Answer → Type 0
NoneIsMemory given = AllByRecursion (λ a. a ≢ answer.Refused Memory) given

-- bytes were written, and none was taken back
abbrev pub Grows : Option (List ℕ) → Option (List ℕ) → Type 0
Grows old new = (bytes : List ℕ) × Appends old new bytes

-- the answers of the lines were written, and nothing else
pub record WritesAnswers (lines : List Line) (given : List Answer) (old new : Option (List ℕ)) : Type 0 where
  pub each : AreLineAnswers [] lines given
  pub written : Appends old new (texts_of lines given)

-- a prefix of the answers of the first lines was written
pub record WritesPrefix (lines : List Line) (old new : Option (List ℕ)) : Type 0 where
  pub first : List Line
  pub rest : List Line
  pub given : List Answer
  pub whole : lines ≡ first ++ rest
  pub each : AreLineAnswers [] first given
  pub written : AppendsFront old new (texts_of first given)

-- the number of answers, and the number of refusals among them
pub record Counts (totals : Totals) (given : List Answer) : Type 0 where
  pub lines : totals.lines ≡ length given
  pub refused : totals.refused ≡ count_by is_refused given

-- The script was answered: each of its lines has its answer, in order, and their texts were written, and nothing else.
-- If no answer is Memory, the texts are the output of the script.
pub record AnswersScript (script : List ℕ) (totals : Totals) (old new : Option (List ℕ)) : Type 0 where
  pub given : List Answer
  pub answers : WritesAnswers (script_of script) given old new
  pub output : NoneIsMemory given → Appends old new (output_of script)
  pub counts : Counts totals given

-- A read failed, after at most the bytes of a script. The lines whose line feed was read have their answers, and the
-- texts of these were written, and nothing else.
pub record AnswersEndedLines (before after old new : Option (List ℕ)) : Type 0 where
  pub bytes : List ℕ
  pub consumed : Consumes before after bytes
  pub few : length bytes ≤ SCRIPT_BYTES
  pub given : List Answer
  pub answers : WritesAnswers (lines_until ending.Failed bytes) given old new

-- the script that the reader had was answered
abbrev pub AnswersInput : Option (List ℕ) → Totals → Option (List ℕ) → Option (List ℕ) → Type 0
AnswersInput known totals old new = (script : List ℕ) × IsInput known script × AnswersScript script totals old new

-- a prefix of the answers of the script that the reader had was written
abbrev pub WritesInputPrefix : Option (List ℕ) → Option (List ℕ) → Option (List ℕ) → Type 0
WritesInputPrefix known old new = (script : List ℕ) × IsInput known script × WritesPrefix (script_of script) old new
