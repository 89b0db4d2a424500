-- The part of a script that was read, and the answers that were written.
use Rattle.std.proofs.Common.{◌≡◌, ◌≢◌, ◌⊎◌, inl, inr, ℕ, ◌≤◌, List, [], ◌∷◌, ◌++◌, length, take, Option, refl, sym, ap, ◌∙◌, subst, append_assoc, append-nil}
use Rattle.std.specs.Io.KnownBytes.{Appends}
use Rattle.point_core.specs.declared.refusal.Refusal.TheVariants.{Memory}
use Rattle.command_core.specs.declared.command.Command.{Command}
use Rattle.command_core.specs.declared.answer.Answer.{Answer}
use Rattle.command_core.specs.declared.answer.Answer.TheVariants as answer
use Rattle.line_core.specs.declared.line.Body.{Body}
use Rattle.line_core.specs.declared.line.Body.TheVariants.{Cmd, Bad}
use Rattle.line_core.specs.declared.line.Line.{Line}
use Rattle.line_core.specs.declared.script.Ending.{Ending}
use Rattle.line_core.specs.declared.script.Ending.TheVariants as ending
use Rattle.line_core.specs.declared.script.TheConstants.{SCRIPT_BYTES}
use Rattle.script_core.specs.declared.totals.Totals.{Totals}
use Rattle.line_core.specs.Handling.{BeginsScript}
use Rattle.line_core.specs.Reading.{WasRead, EndsSo}
use Rattle.line_core.specs.Script.{lines_until, script_of}
use Rattle.report_core.specs.Answer.{text_of}
use Rattle.script_core.specs.Output.{answer_of_line, history_after_line, output_from, IsLineAnswer, AreLineAnswers, texts_of, NoneIsMemory, WritesAnswers, WritesPrefix, Counts, AnswersScript, AnswersInput, AnswersEndedLines, WritesInputPrefix}
use Rattle.script_core.specs.Answering.{AnswersLines}
use Rattle.line_core.proofs.Inputs.{input_from, script_of-whole, script_of-too_long, lines_until-short}
use Rattle.script_core.proofs.Progress.{AppendsFront-all}

-- unless it is Memory, the answer of a line is unique
exact : (history : List Command) (body : Body) (a : Answer) → IsLineAnswer history body a → a ≢ answer.Refused Memory → a ≡ answer_of_line history body
exact history (Cmd command) a is other = elim is.reported [ inl e ↦ e | inr m ↦ absurd (other m.0) ]
exact history (Bad refusal) a is other = is

texts_of-output : (history : List Command) (ls : List Line) (given : List Answer) → AreLineAnswers history ls given → NoneIsMemory given → texts_of ls given ≡ output_from history ls
texts_of-output history [] [] each none = refl
texts_of-output history [] (a ∷ given) each none = absurd each
texts_of-output history (l ∷ ls) [] each none = absurd each
texts_of-output history (l ∷ ls) (a ∷ given) each none =
    let e = exact history l.body a each.0 none.0 in
    ap (λ text. text_of l.number a ++ text) (texts_of-output (history_after_line history l.body a) ls given each.1 none.1)
    ∙ ap (λ b. text_of l.number b ++ output_from (history_after_line history l.body b) ls) e

pub AnswersScript-from : (script : List ℕ) (lines : List Line) (given : List Answer) (totals : Totals) (old new : Option (List ℕ)) → script_of script ≡ lines → WritesAnswers lines given old new → Counts totals given → AnswersScript script totals old new
AnswersScript-from script lines given totals old new e w counts =
    let answers : WritesAnswers (script_of script) given old new = subst (λ ls. WritesAnswers ls given old new) (sym e) w in
    record {
      given = given;
      answers = answers;
      output = λ none. subst (Appends old new) (texts_of-output [] (script_of script) given answers.each none) answers.written;
      counts = counts;
    }

pub WritesPrefix-more : (lines rest whole : List Line) (old new : Option (List ℕ)) → whole ≡ lines ++ rest → WritesPrefix lines old new → WritesPrefix whole old new
WritesPrefix-more lines rest whole old new e w = record {
  first = w.first;
  rest = w.rest ++ rest;
  given = w.given;
  whole = e ∙ ap (λ ls. ls ++ rest) w.whole ∙ append_assoc w.first w.rest rest;
  each = w.each;
  written = w.written;
}

pub WritesPrefix-all : (lines : List Line) (given : List Answer) (old new : Option (List ℕ)) → WritesAnswers lines given old new → WritesPrefix lines old new
WritesPrefix-all lines given old new w = record {
  first = lines;
  rest = [];
  given = given;
  whole = sym (append-nil lines);
  each = w.each;
  written = AppendsFront-all old new (texts_of lines given) w.written;
}

-- the lines that were answered are the script's first
pub prefix_written : (known : Option (List ℕ)) (lines : List (List ℕ)) (said : List Line) (old new : Option (List ℕ)) → BeginsScript known lines said → WritesPrefix said old new → WritesInputPrefix known old new
prefix_written known lines said old new b w = (b.script, b.is, WritesPrefix-more said b.rest (script_of b.script) old new b.first w)

module _ (known left : Option (List ℕ)) (bytes : List ℕ) (end : Ending) (lines : List Line) (read : WasRead known left bytes end) (among : lines ≡ lines_until end (take SCRIPT_BYTES bytes)) (old new : Option (List ℕ)) where
  pub all_written : (totals : Totals) → (end ≡ ending.Whole) ⊎ (end ≡ ending.TooLong) → AnswersLines lines totals old new → AnswersInput known totals old new
  all_written totals ends w =
      let input = input_from known left bytes read.consumed in
      let whole : script_of input.0 ≡ lines_until end (take SCRIPT_BYTES bytes) = elim ends [
        | inl e ↦ script_of-whole known left bytes input.0 input.1 (subst (EndsSo left bytes) e read.ends) ∙ ap (λ x. lines_until x (take SCRIPT_BYTES bytes)) (sym e)
        | inr e ↦ script_of-too_long known left bytes input.0 input.1 (subst (EndsSo left bytes) e read.ends) ∙ ap (λ x. lines_until x (take SCRIPT_BYTES bytes)) (sym e)
      ] in
      (input.0, input.1.input, AnswersScript-from input.0 lines w.given totals old new (whole ∙ sym among) w.answers w.counts)

  pub ended_written : (totals : Totals) → end ≡ ending.Failed → AnswersLines lines totals old new → AnswersEndedLines known left old new
  ended_written totals e w =
      let short : length bytes ≤ SCRIPT_BYTES = subst (EndsSo left bytes) e read.ends in
      let lines_are : lines ≡ lines_until ending.Failed bytes = among ∙ ap (λ x. lines_until x (take SCRIPT_BYTES bytes)) e ∙ lines_until-short ending.Failed bytes short in
      let answers : WritesAnswers (lines_until ending.Failed bytes) w.given old new = subst (λ ls. WritesAnswers ls w.given old new) lines_are w.answers in
      record { bytes = bytes; consumed = read.consumed; few = short; given = w.given; answers = answers }
