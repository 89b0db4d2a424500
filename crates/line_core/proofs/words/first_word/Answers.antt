use Rattle.std.proofs.Common.{◌≡◌, ◌-◌, length, take, drop, unwrap_or, refl, sym, ap, ◌∙◌}
use Rattle.std.specs.List.{position}
use Rattle.std.proofs.lemmas.List.{take_rest}
use Rattle.line_core.specs.Words.{is_space}
use Rattle.line_core.proofs.Runs.{runs-none, runs-from, runs-from_begins, runs-front}
use Rattle.line_core.proofs.words.first_word.Goals as goal

pub returns-in_err-start : goal.returns-in_err-start
returns-in_err-start c = rw c.from_residual.ensures (record { words = runs-none is_space c.args.bytes.now (sym c.in_err-start.ensures.place) })

pub returns : goal.returns
returns c =
    let bytes = c.args.bytes.now in
    let start = c.in_ok-start.start in
    let rest = drop start bytes in
    let part = take (length bytes - start) rest in
    let end = c.unwrap_or-end.result in
    let at = sym c.in_ok-start.ensures.place in
    let begins = runs-from_begins is_space bytes start at in
    let whole : part ≡ rest = simp take_rest refl in
    let ends : unwrap_or (position is_space rest) (length rest) ≡ end = ap (λ xs. unwrap_or (position is_space xs) (length xs)) (sym whole) ∙ sym (rw c.first_space.ensures.place at c.unwrap_or-end.ensures) in
    let words = runs-from is_space bytes start at ∙ runs-front is_space rest end begins.0 begins.1 ends in
    rw (c.split_at.ensures.front, c.split_at.ensures.back) (simp take_rest (record { words = words }))
