-- A text of which no answer differs passes, if a script may be as long.
use Rattle.std.proofs.Common.{◌≡◌, ◌∙◌, ◌≤◌, ◌+◌, ℕ, List, [], cond, length, take, refl, sym, ap, subst}
use Rattle.std.proofs.lemmas.Bool.{le-leb}
use Rattle.std.proofs.lemmas.List.{take_all}
use Rattle.line_core.specs.declared.script.Ending.TheVariants as ending
use Rattle.line_core.specs.declared.script.TheConstants.{SCRIPT_BYTES}
use Rattle.line_core.specs.Script.{ending_of, lines_of, lines_until, script_of}
use Rattle.script_core.specs.Output.{AreLineAnswers}
use Rattle.check_core.specs.Check.{AgreesWith, AnswersAsExpected, AreAsExpected, asked_count, differing_count}
use Rattle.check_core.specs.Expected.{differs, expected_of, is_asked}
use Rattle.check_core.specs.Slips.{slip_count}
use Rattle.check_core.specs.Tally.{one_if}
use Rattle.check_core.specs.Update.{Passes}
use Rattle.check_core.proofs.Counts.{counts-agree}

whole-script : (text : List ℕ) → length text ≤ SCRIPT_BYTES → lines_until ending.Whole text ≡ script_of text
whole-script text short =
    let ends : ending_of text ≡ ending.Whole = ap (λ b. cond b ending.Whole ending.TooLong) (le-leb (length text) SCRIPT_BYTES short) in
    ap (lines_until ending.Whole) (sym (take_all SCRIPT_BYTES text short)) ∙ ap (λ end. lines_until end (take SCRIPT_BYTES text)) (sym ends)

pub passes : (text : List ℕ) → length text ≤ SCRIPT_BYTES → AnswersAsExpected text → Passes text
passes text short h =
    let same = whole-script text short in
    let agrees : AgreesWith text h.given = (h.first, subst (λ ls. AreAsExpected text ls h.given) same h.all) in
    let none : one_if (differs (expected_of text 0) []) + differing_count text (script_of text) h.given ≡ 0 = (counts-agree text h.given _ refl).1 agrees in
    record {
      tally = record {
        lines = length h.given;
        checked = one_if (is_asked (expected_of text 0)) + asked_count text (script_of text);
        differing = 0;
        slips = slip_count (lines_of text);
      };
      checks = record {
        given = h.given;
        each = subst (λ ls. AreLineAnswers [] ls h.given) same h.each;
        lines = refl;
        checked = refl;
        differing = sym none;
        agrees = counts-agree text h.given 0 (sym none);
        slips = refl;
      };
      none = refl;
    }
