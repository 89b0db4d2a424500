-- What the counts of a check say.
use Rattle.std.proofs.Common.{◌≡◌, ◌↔◌, ℕ, ◌+◌, Bool, true, false, not, List, [], ◌∷◌, refl, ap, arith}
use Rattle.std.specs.Str.{bytes_eq}
use Rattle.std.proofs.lemmas.Slice.Eq.{bytes_eq-Decides}
use Rattle.command_core.specs.declared.answer.Answer.{Answer}
use Rattle.line_core.specs.declared.line.Line.{Line}
use Rattle.line_core.specs.Script.{script_of}
use Rattle.report_core.specs.Answer.{text_of}
use Rattle.check_core.specs.Expected.{expected_of, output_of_lines, IsAsExpected, differs}
use Rattle.check_core.specs.Tally.{one_if}
use Rattle.check_core.specs.Check.{AreAsExpected, AgreesWith, differing_count}

not_one : (b : Bool) → one_if (not b) ≡ 0 → b ≡ true
not_one true e = refl
not_one false e = absurd (omega arith)

as_expected : (expected : List (List ℕ)) (text : List ℕ) → one_if (differs expected text) ≡ 0 → IsAsExpected expected text
as_expected [] text e = tt
as_expected (line ∷ more) text e =
    let all = output_of_lines (line ∷ more) in
    (bytes_eq-Decides text all).0 (not_one (bytes_eq text all) e)

none_counted : (expected : List (List ℕ)) (text : List ℕ) → IsAsExpected expected text → one_if (differs expected text) ≡ 0
none_counted [] text e = refl
none_counted (line ∷ more) text e =
    let all = output_of_lines (line ∷ more) in
    ap (λ b. one_if (not b)) ((bytes_eq-Decides text all).1 e)

all_as_expected : (script : List ℕ) (ls : List Line) (given : List Answer) → differing_count script ls given ≡ 0 → AreAsExpected script ls given
all_as_expected script [] given e = tt
all_as_expected script (l ∷ ls) [] e = tt
all_as_expected script (l ∷ ls) (a ∷ rest) e = (
  as_expected (expected_of script l.number) (text_of l.number a) (omega arith),
  all_as_expected script ls rest (omega arith),
)

no_differences : (script : List ℕ) (ls : List Line) (given : List Answer) → AreAsExpected script ls given → differing_count script ls given ≡ 0
no_differences script [] given all = refl
no_differences script (l ∷ ls) [] all = refl
no_differences script (l ∷ ls) (a ∷ rest) all =
    omega (arith, none_counted (expected_of script l.number) (text_of l.number a) all.0, no_differences script ls rest all.1)

pub lines-agree : (script : List ℕ) (ls : List Line) (given : List Answer) → one_if (differs (expected_of script 0) []) + differing_count script ls given ≡ 0 → IsAsExpected (expected_of script 0) [] × AreAsExpected script ls given
lines-agree script ls given none = (
  as_expected (expected_of script 0) [] (omega arith),
  all_as_expected script ls given (omega arith),
)

pub counts-agree : (script : List ℕ) (given : List Answer) (n : ℕ) → n ≡ one_if (differs (expected_of script 0) []) + differing_count script (script_of script) given → (n ≡ 0) ↔ AgreesWith script given
counts-agree script given n e = (
  (λ zero. (as_expected (expected_of script 0) [] (omega arith), all_as_expected script (script_of script) given (omega arith))),
  (λ agrees. omega (arith, none_counted (expected_of script 0) [] agrees.0, no_differences script (script_of script) given agrees.1)),
)
