-- A line of a script that a C program gives a desk: its body, its answer, and the answer's text.
use Rattle.std.specs.Prelude.{◌≡◌, ◌⊎◌, ℕ, ◌<◌, ◌-◌, ℤ, Bool, true, false, List, [], ◌∷◌, ◌++◌, length, take, Option, None, Some, Result, Ok, Err}
use Rattle.point_core.specs.declared.refusal.Refusal.{Refusal}
use Rattle.point_core.specs.declared.refusal.Refusal.TheVariants.{Syntax, Memory}
use Rattle.command_core.specs.declared.command.Command.{Command}
use Rattle.command_core.specs.declared.answer.Answer.{Answer}
use Rattle.command_core.specs.declared.answer.Answer.TheVariants as answer
use Rattle.desk_core.specs.theorem.Answer.{OnRefused}
use Rattle.desk_core.specs.theorem.Desk.{HasHistory}
use Rattle.line_core.specs.Line.{body_of}
use Rattle.line_core.specs.Script.{lines_of}
use Rattle.line_core.specs.declared.line.Body.{Body}
use Rattle.line_core.specs.declared.line.Body.TheVariants.{Cmd, Bad}
use Rattle.script_core.specs.Output.{IsLineAnswer, history_after_line}
use Rattle.report_core.specs.Answer.{text_of}
use Rattle.c_desk.specs.declared.handle.DeskHandle.{DeskHandle}
use Rattle.c_desk.specs.declared.line.TheConstants.{LINE, ANSWER_ROOM}
use Rattle.c_desk.specs.Call.{number_of_answer}
use Rattle.c_desk.specs.Handle.{is_open}
use Rattle.c_handle.specs.Rows.{over}
use Rattle.c_desk.specs.Service.{cookies_of}

-- one line, with or without its line feed; more than one is refused as Syntax
abbrev pub body_of_lines : List (List ℕ) → Option Body
body_of_lines [] = None
body_of_lines (line ∷ []) = body_of line
body_of_lines (line ∷ [] ∷ []) = body_of line
body_of_lines (line ∷ (b ∷ bytes) ∷ more) = Some (Bad Syntax)
body_of_lines (line ∷ [] ∷ next ∷ more) = Some (Bad Syntax)

-- the body of the bytes, which are to be one line
abbrev pub body_of_bytes : List ℕ → Option Body
body_of_bytes bytes = body_of_lines (lines_of bytes)

-- the command of a line, or its error
abbrev pub command_of : Body → Result Command Refusal
command_of (Cmd command) = Ok command
command_of (Bad refusal) = Err refusal

-- the answer without the cookies that it fires, which are queued
abbrev pub without_cookies : Answer → Answer
without_cookies (answer.Raised n fired) = answer.Value n
without_cookies answer.Done = answer.Done
without_cookies (answer.Value n) = answer.Value n
without_cookies (answer.Info i) = answer.Info i
without_cookies (answer.Show rows) = answer.Show rows
without_cookies (answer.Report report) = answer.Report report
without_cookies (answer.Refused r) = answer.Refused r

-- the text that a script would print for the answer, if the line is its first
abbrev pub answer_text : Answer → List ℕ
answer_text given = text_of LINE (without_cookies given)

-- the text of the answer has a line for each of its rows
abbrev pub has_rows : Answer → Bool
has_rows (answer.Info i) = true
has_rows (answer.Show rows) = true
has_rows (answer.Report report) = true
has_rows answer.Done = false
has_rows (answer.Value n) = false
has_rows (answer.Raised n fired) = false
has_rows (answer.Refused r) = false

-- the text and a NUL over the start of the old bytes, as much of the text as there is room for
abbrev pub over_with_nul : List ℕ → List ℕ → List ℕ
over_with_nul text old = over (take (length old - 1) text ++ 0 ∷ []) old

-- the text was stored, as much as there was room for, and its whole length
pub record StoresText (text old new : List ℕ) (count : ℕ) : Type 0 where
  pub bytes : new ≡ over_with_nul text old
  pub whole : count ≡ length text

-- The answer was reported by its number and its text. If it has rows, and their text could not be allocated, Memory was
-- reported in its place.
pub record IsReporting (given : Answer) (old new : List ℕ) (count : ℕ) (returned : ℤ) : Type 0 where
  pub reported : Answer
  pub is : (reported ≡ given) ⊎ ((reported ≡ answer.Refused Memory) × (has_rows given ≡ true))
  pub number : returned ≡ number_of_answer reported
  pub text : StoresText (answer_text reported) old new count
  pub few : has_rows reported ≡ false → count < ANSWER_ROOM

-- The line was answered as a line of a script is, except that the cookies that it fires were queued, and the answer was
-- reported by its number and its text. If there was too little room for a text, nothing has changed.
pub record IsLineCall (old new : DeskHandle) (body : Body) (room out : List ℕ) (count : ℕ) (returned : ℤ) : Type 0 where
  pub given : Answer
  pub opened : is_open new ≡ true
  pub answered : (history : List Command) → HasHistory old.service.desk history → IsLineAnswer history body given
  pub stands : (history : List Command) → HasHistory old.service.desk history
      → HasHistory new.service.desk (history_after_line history body given)
  pub unchanged : OnRefused given ((new.service ≡ old.service) ⊎ (given ≡ answer.Refused Memory))
  pub kept : new.service.fired ≡ old.service.fired ++ cookies_of given
  pub number : returned ≡ number_of_answer given
  pub text : StoresText (answer_text given) room out count
  pub few : has_rows given ≡ false → count < ANSWER_ROOM
  pub fits : (count < length room)
      ⊎ ((history : List Command) → HasHistory old.service.desk history → HasHistory new.service.desk history)

-- neither the desk nor what the call could have stored has changed
pub record IsKept (old new : DeskHandle) (room out : List ℕ) (old_count new_count : ℕ) : Type 0 where
  pub desk : new ≡ old
  pub bytes : out ≡ room
  pub count : new_count ≡ old_count
