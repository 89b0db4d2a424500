-- A line in an array, with spaces behind it.
use Rattle.std.proofs.Common.{◌≡◌, ℕ, ◌+◌, ◌-◌, ◌≤◌, List, ◌++◌, length, take, drop, sym, ap, ◌∙◌, arith}
use Rattle.std.proofs.Math.Seq.{take-append-add}
use Rattle.std.proofs.lemmas.List.{take-append-drop, take-replicate, drop-drop, drop-replicate, length-take-le}
use Rattle.report_core.specs.Columns.{spaces}

-- spaces behind a line are spaces behind a longer one
pub spaces-rest : (bytes : List ℕ) (len count most : ℕ) → drop len bytes ≡ spaces (most - len) → drop (len + count) bytes ≡ spaces (most - (len + count))
spaces-rest bytes len count most all =
    let fewer : most - len - count ≡ most - (len + count) = omega arith in
    let last : drop count (spaces (most - len)) ≡ spaces (most - len - count) = drop-replicate count (most - len) 32 in
    let next : drop (len + count) bytes ≡ drop count (drop len bytes) = sym (drop-drop count len bytes) in
    next ∙ ap (drop count) all ∙ last ∙ ap spaces fewer

-- a line that is made longer has spaces at its end
pub spaces-taken : (bytes : List ℕ) (len count most : ℕ) → len ≤ length bytes → count ≤ most - len → drop len bytes ≡ spaces (most - len) → take (len + count) bytes ≡ take len bytes ++ spaces count
spaces-taken bytes len count most within fits all =
    let line = take len bytes in
    let size : length line ≡ len = length-take-le len bytes within in
    sym (ap (take (len + count)) (take-append-drop len bytes))
    ∙ ap (λ n. take (n + count) (line ++ drop len bytes)) (sym size)
    ∙ take-append-add line (drop len bytes) count
    ∙ ap (λ rest. line ++ rest) (ap (take count) all ∙ take-replicate count (most - len) 32 fits)
