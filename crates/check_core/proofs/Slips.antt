-- Slips among the lines of a script.
use Rattle.std.proofs.Common.{◌≡◌, ◌∙◌, ◌+◌, ◌≤◌, ℕ, Bool, true, false, List, [], ◌∷◌, ◌++◌, length, Option, None, Some, refl, sym, ap, arith}
use Rattle.line_core.specs.Cutting.{cut}
use Rattle.line_core.specs.Line.{body_of}
use Rattle.line_core.specs.declared.line.Body.{Body}
use Rattle.line_core.proofs.EndedLines.{body_of-cut}
use Rattle.check_core.specs.Slips.{is_slip, slip_count}
use Rattle.check_core.specs.Tally.{one_if}
use Rattle.check_core.proofs.Progress.{note-whole}

pub one_at_most : (b : Bool) → one_if b ≤ 1
one_at_most true = omega arith
one_at_most false = omega arith

pub slip_count-few : (lines : List (List ℕ)) → slip_count lines ≤ length lines
slip_count-few [] = omega arith
slip_count-few (line ∷ lines) = omega (arith, one_at_most (is_slip line), slip_count-few lines)

pub slip_count-push : (lines : List (List ℕ)) (line : List ℕ) → slip_count (lines ++ line ∷ []) ≡ slip_count lines + one_if (is_slip line)
slip_count-push [] line = omega arith
slip_count-push (first ∷ lines) line = omega (arith, slip_count-push lines line)

uncut : (line : List ℕ) (body : Option Body) → body_of line ≡ body → is_slip (cut line) ≡ is_slip line
uncut line None none = ap is_slip (note-whole line none)
uncut line (Some body) some = no_slip (cut line) body (body_of-cut line ∙ some) ∙ sym (no_slip line body some)
  where
    no_slip : (line : List ℕ) (body : Body) → body_of line ≡ Some body → is_slip line ≡ false
    no_slip line body some = rw some refl

-- one line more, of which these bytes are kept
pub slip-line : (lines : List (List ℕ)) (line bytes : List ℕ) (before one : ℕ) → before ≡ slip_count lines → one ≡ one_if (is_slip bytes) → bytes ≡ cut line
    → before + one ≡ slip_count (lines ++ line ∷ [])
slip-line lines line bytes before one counted is kept =
    let same : one ≡ one_if (is_slip line) = is ∙ ap (λ b. one_if (is_slip b)) kept ∙ ap one_if (uncut line (body_of line) refl) in
    omega (arith, counted, same, slip_count-push lines line)
