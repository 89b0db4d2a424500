-- All lines of a text, one after another.
use Rattle.std.proofs.Common.{◌≡◌, ℕ, ◌+◌, List, [], ◌∷◌, ◌++◌, length, refl, sym, ap, ◌∙◌, subst, append_assoc, arith}
use Rattle.std.proofs.lemmas.List.{length_push}
use Rattle.line_core.specs.declared.script.Ending.TheVariants as ending
use Rattle.line_core.specs.Cutting.{cut}
use Rattle.line_core.specs.Line.{body_of}
use Rattle.line_core.specs.Script.{answered, lines_of, lines_until, numbered}
use Rattle.line_core.proofs.EndedLines.{body_of-cut, ended_lines, line-answered, numbered-given}
use Rattle.check_core.specs.declared.checker.Checker.{Checker}
use Rattle.check_core.specs.Check.{AnswersAsExpected, IsEnded, IsFresh, IsTaken}
use Rattle.check_core.specs.Checked.{HasChecked}
use Rattle.check_core.specs.Expected.{expected_text}
use Rattle.check_core.proofs.Progress.{HasChecked-agrees, HasChecked-none, HasChecked-whole}

-- the lines before `rest` were checked, and its first line has that number
pub record HasCheckedTo (text rest : List ℕ) (number : ℕ) (c : Checker) : Type 0 where
  pub lines : List (List ℕ)
  pub so_far : HasChecked lines (ended_lines 1 lines) c
  pub place : number ≡ length lines + 1
  pub split : lines_of text ≡ lines ++ lines_of rest

pub checked-none : (text : List ℕ) (c : Checker) → IsFresh c → HasCheckedTo text text 1 c
checked-none text c fresh = record { lines = []; so_far = HasChecked-none c fresh; place = omega arith; split = refl }

pub checked-line : (text rest line more : List ℕ) (number : ℕ) (c c' : Checker) → lines_of rest ≡ line ∷ lines_of more → HasCheckedTo text rest number c
    → IsTaken c c' number (body_of line) (expected_text line) → HasCheckedTo text more (number + 1) c'
checked-line text rest line more number c c' is p x =
    let with_line = p.lines ++ line ∷ [] in
    let said = line-answered p.lines line (cut line) number (body_of line) p.place refl (sym (body_of-cut line)) in
    record {
      lines = with_line;
      so_far = subst (λ done. HasChecked with_line done c') said (HasChecked-whole p.lines line number p.place (ended_lines 1 p.lines) c c' p.so_far x);
      place = omega (arith, p.place, length_push p.lines line);
      split = p.split ∙ ap (λ ls. p.lines ++ ls) is ∙ sym (append_assoc p.lines (line ∷ []) (lines_of more));
    }

pub checked-all : (text rest : List ℕ) (number : ℕ) (c c' : Checker) → lines_of rest ≡ rest ∷ [] → HasCheckedTo text rest number c
    → IsEnded c c' number (body_of rest) (expected_text rest) → c'.tally.differing ≡ 0 → AnswersAsExpected text
checked-all text rest number c c' is p x none =
    let done = ended_lines 1 p.lines ++ answered number (body_of rest) [] in
    let split : lines_of text ≡ p.lines ++ rest ∷ [] = p.split ∙ ap (λ ls. p.lines ++ ls) is in
    let place : 1 + length p.lines ≡ number = omega (arith, p.place) in
    let said : lines_until ending.Whole text ≡ done =
    ap (numbered ending.Whole 1) split
    ∙ numbered-given ending.Whole 1 p.lines (rest ∷ []) (omega arith)
    ∙ ap (λ n. ended_lines 1 p.lines ++ answered n (body_of rest) []) place in
    let taken = HasChecked-whole p.lines rest number p.place (ended_lines 1 p.lines) c x.between p.so_far x.taken in
    HasChecked-agrees text done x.between c' said (subst (λ ls. HasChecked ls done x.between) (sym split) taken) x.judged none
