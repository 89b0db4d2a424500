-- Lines of a script that are handled one after another.
use Rattle.std.specs.Prelude.{◌≡◌, ◌≢◌, ℕ, ◌+◌, List, [], ◌∷◌, ◌++◌, length, take, Option}
use Rattle.line_core.specs.declared.line.Body.{Body}
use Rattle.line_core.specs.declared.line.Line.{Line}
use Rattle.line_core.specs.declared.script.Ending.{Ending}
use Rattle.line_core.specs.declared.script.Ending.TheVariants as ending
use Rattle.line_core.specs.declared.script.TheConstants.{SCRIPT_BYTES}
use Rattle.line_core.specs.Cutting.{cut}
use Rattle.line_core.specs.Reading.{IsInput, WasRead}
use Rattle.line_core.specs.Script.{answered, ended_lines, last_body, lines_of, lines_until, script_of}
use Rattle.line_core.specs.ScriptLines.{HasGiven, LinesState}

-- How lines were handled: relates the state before the first line, the lines, the ones of them that have an answer, and
-- the state after the last.
abbrev pub Handled : Type 0 → Type 1
Handled S = S → List (List ℕ) → List Line → S → Type 0

-- lines were handled, and `number` is the number of the line after them
pub record IsNext {S : Type 0} (handled : Handled S) (now : S) (number : ℕ) : Type 0 where
  pub start : S
  pub lines : List (List ℕ)
  pub said : List Line
  pub so_far : handled start lines said now
  pub is : number ≡ length lines + 1

-- one more line was handled: `bytes` are the ones that are kept of it, and `body` is what it says
abbrev pub HandlesLine : {S : Type 0} → Handled S → Handled S → ℕ → List ℕ → Option Body → S → S → Type 0
HandlesLine {S} before after number bytes body old new =
    (start : S) (lines : List (List ℕ)) (said : List Line) (text : List ℕ) → before start lines said old
    → number ≡ length lines + 1 → bytes ≡ cut text
    → after start (lines ++ text ∷ []) (said ++ answered number body []) new

-- no line was handled
abbrev pub Pauses : {S : Type 0} → Handled S → Handled S → S → S → Type 0
Pauses {S} before after old new =
    (start : S) (lines : List (List ℕ)) (said : List Line) → before start lines said old → after start lines said new

-- The bytes after the last line feed were handled as a line, unless a read failed in them.
pub record HandlesLast {S : Type 0} (handled : Handled S) (ended : Ending → Handled S) (end : Ending) (number : ℕ) (bytes : List ℕ)
    (old new : S) : Type 0 where
  pub whole : end ≢ ending.Failed → HandlesLine handled (ended end) number bytes (last_body end bytes) old new
  pub broken : end ≡ ending.Failed → new ≡ old

-- the bytes after the last line feed were not handled, though no read failed in them
pub record FailsLast {S : Type 0} (handled failed : Handled S) (end : Ending) (number : ℕ) (bytes : List ℕ) (old new : S) : Type 0 where
  pub whole : end ≢ ending.Failed
  pub at : HandlesLine handled failed number bytes (last_body end bytes) old new

-- ---- all lines

-- a script begins with `lines`, and `said` are the ones that have an answer
pub record BeginsScript (input : Option (List ℕ)) (lines : List (List ℕ)) (said : List Line) : Type 0 where
  pub script : List ℕ
  pub is : IsInput input script
  pub tail : List (List ℕ)
  pub split : lines_of (take SCRIPT_BYTES script) ≡ lines ++ tail
  pub rest : List Line
  pub first : script_of script ≡ said ++ rest

-- The first lines of a script were handled, and then a call failed.
pub record StopsAmong {S : Type 0} (failed : Handled S) (input : Option (List ℕ)) (start now : S) : Type 0 where
  pub lines : List (List ℕ)
  pub said : List Line
  pub begins : BeginsScript input lines said
  pub at : failed start lines said now

-- ---- the lines that were returned

-- the returned lines were all handled
pub record HandlesGiven {S : Type 0} (handled : Handled S) (before now : Option (List ℕ)) (s : LinesState) (start at : S) : Type 0 where
  pub given : List (List ℕ)
  pub has : HasGiven before now s given
  pub so_far : handled start given (ended_lines 1 given) at

-- ---- the whole script

-- The bytes of a script were read to the ending `end`, and their lines were handled: all of them, or, if a read failed, all
-- but the line in which it failed (`unread`).
pub record HandlesScript {S : Type 0} (handled : Handled S) (ended : Ending → Handled S) (before after : Option (List ℕ))
    (end : Ending) (start now : S) : Type 0 where
  pub bytes : List ℕ
  pub read : WasRead before after bytes end
  pub lines : List (List ℕ)
  pub said : List Line
  pub begins : BeginsScript before lines said
  pub is : said ≡ lines_until end (take SCRIPT_BYTES bytes)
  pub unread : List (List ℕ)
  pub split : lines_of (take SCRIPT_BYTES bytes) ≡ lines ++ unread
  pub whole : end ≢ ending.Failed → (unread ≡ []) × ended end start lines said now
  pub broken : end ≡ ending.Failed → handled start lines said now
