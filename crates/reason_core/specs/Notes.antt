-- What is noted on a line, and that a note follows the answers of all lines up to its own.
use Rattle.std.specs.Prelude.{◌≡◌, ◌⊎◌, ℕ, List, [], ◌∷◌, ◌++◌, All, Option, Some, Result, codes, decimal, MatchResult}
use Rattle.std.specs.Io.KnownBytes.{Appends}
use Rattle.point_core.specs.declared.refusal.Refusal.{Refusal}
use Rattle.command_core.specs.declared.answer.Answer.{Answer}
use Rattle.line_core.specs.Reading.{IsInput}
use Rattle.line_core.specs.Script.{script_of}
use Rattle.line_core.specs.declared.line.Body.{Body}
use Rattle.line_core.specs.declared.line.Line.{Line}
use Rattle.report_core.specs.Bytes.{AppendsFront}
use Rattle.script_core.specs.Answering.{AnswersState, HasAnswered}
use Rattle.script_core.specs.Handled.{HasHandled, HasStopped}
use Rattle.script_core.specs.Output.{AreLineAnswers, WritesAnswers, texts_of}
use Rattle.reason_core.specs.declared.look.NoteLook.{NoteLook}
use Rattle.reason_core.specs.declared.look.NoteLook.TheVariants.{Plain, Bold}

-- the bytes before the line's number, and after it
abbrev pub before_number : NoteLook → List ℕ
before_number Plain = codes "line "
before_number Bold = 27 ∷ codes "[1mline "

abbrev pub after_number : NoteLook → List ℕ
after_number Plain = codes ": "
after_number Bold = codes ":" ++ 27 ∷ codes "[0m "

-- `line N: `, with which a note on line N begins
abbrev pub mark_of : NoteLook → ℕ → List ℕ
mark_of look number = before_number look ++ (decimal number ++ after_number look)

-- nothing, or a text that begins with the line's mark
abbrev pub IsNote : ℕ → List ℕ → Type 0
IsNote number text = (text ≡ []) ⊎ ((look : NoteLook) × (more : List ℕ) × (text ≡ mark_of look number ++ more))

-- a note on the line was written, or a prefix of one
pub record WritesNote (number : ℕ) (old new : Option (List ℕ)) : Type 0 where
  pub text : List ℕ
  pub is : IsNote number text
  pub written : AppendsFront old new text

-- a note on the line was written, and after a failure a prefix of one
pub record Notes (ended : Result (Unit {0}) Refusal) (number : ℕ) (old new : Option (List ℕ)) : Type 0 where
  pub text : List ℕ
  pub is : IsNote number text
  pub written : MatchResult ended (λ _. Appends old new text) (λ _. AppendsFront old new text)

-- ---- notes after answers

-- One of the lines is line `number`. All lines up to it have their answers, and the texts of these were written, whatever
-- was written after them.
pub record AnswersUpTo (lines : List Line) (number : ℕ) (old new : Option (List ℕ)) : Type 0 where
  pub before : List Line
  pub line : Line
  pub after : List Line
  pub whole : lines ≡ (before ++ line ∷ []) ++ after
  pub numbered : line.number ≡ number
  pub given : List Answer
  pub each : AreLineAnswers [] (before ++ line ∷ []) given
  pub more : List ℕ
  pub written : Appends old new (texts_of (before ++ line ∷ []) given ++ more)

-- Notes on these lines were written, one after another. Notes are of any type `N`, of which `contents` are the bytes.
abbrev pub AreNoted : {N : Type 0} → (N → Option (List ℕ)) → List ℕ → N → N → Type 0
AreNoted {N} contents [] old new = new ≡ old
AreNoted {N} contents (number ∷ numbers) old new =
    (between : N) × WritesNote number (contents old) (contents between) × AreNoted contents numbers between new

-- Notes on some of the lines were written, and the answers of all lines up to each of these. `old` and `new` are the
-- writer's bytes before and after the run, `before` and `after` the notes.
pub record NotesAmong {N : Type 0} (contents : N → Option (List ℕ)) (lines : List Line) (old new : Option (List ℕ)) (before after : N)
    : Type 0 where
  pub numbers : List ℕ
  pub notes : AreNoted contents numbers before after
  pub follow : All (λ (number : ℕ). AnswersUpTo lines number old new) numbers

-- the lines are the ones of the script that the reader had
abbrev pub NotesFollow : {N : Type 0} → (N → Option (List ℕ)) → Option (List ℕ) → Option (List ℕ) → Option (List ℕ)
    → N → N → Type 0
NotesFollow contents known old new before after =
    (script : List ℕ) × IsInput known script × NotesAmong contents (script_of script) old new before after

-- line `number` has an answer, and if all lines before it were answered, so is it, and no text is pending
pub record IsWrittenUpTo (number : ℕ) (body : Option Body) (before : AnswersState) (old new : Option (List ℕ)) : Type 0 where
  pub said : Body
  pub is : body ≡ Some said
  pub written : (done : List Line) → (start : Option (List ℕ)) → HasAnswered done before start old
      → (given : List Answer) × WritesAnswers (done ++ record { number = number; body = said } ∷ []) given start new

-- nothing was noted, or a note on line `number` after the answers of all lines up to it
abbrev pub NotesLine : {N : Type 0} → (N → Option (List ℕ)) → ℕ → Option Body → AnswersState
    → Option (List ℕ) → Option (List ℕ) → N → N → Type 0
NotesLine contents number body answers old new before after =
    (after ≡ before) ⊎ (WritesNote number (contents before) (contents after) × IsWrittenUpTo number body answers old new)

-- the lines `said` were answered, and notes on some of them were written
pub record HasExplained {N : Type 0} (contents : N → Option (List ℕ)) (lines : List (List ℕ)) (said : List Line) (s : AnswersState)
    (old new : Option (List ℕ)) (before after : N) : Type 0 where
  pub handled : HasHandled lines said s old new
  pub notes : NotesAmong contents said old new before after

-- a prefix of the answers of the lines `said` was written, and notes on some of them
pub record StopsExplaining {N : Type 0} (contents : N → Option (List ℕ)) (refusal : Refusal) (said : List Line)
    (old new : Option (List ℕ)) (before after : N) : Type 0 where
  pub stopped : HasStopped refusal said old new
  pub notes : NotesAmong contents said old new before after
