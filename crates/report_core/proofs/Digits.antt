-- Digits that are written from the last to the first, up to a place that their number gives.
use Rattle.std.proofs.Common.{◌≡◌, ℕ, ◌+◌, ◌*◌, ◌^◌, ◌/◌, ◌≤◌, ◌<◌, zero, suc, List, ◌++◌, length, take, drop, decimal, sym, ap, ◌∙◌, arith, append_assoc, length-append}
use Rattle.std.proofs.Math.Nat.{pow-succ'}
use Rattle.std.proofs.Math.Seq.{take-append_seam, drop-append_seam}
use Rattle.std.proofs.lemmas.Fmt.{decimal_nonempty, length-decimal-le}
use Rattle.std.proofs.lemmas.List.{take-append-drop, drop-drop, length-take-le}
use Rattle.itoa.proofs.Decimal.{length_step_wide}

-- digits that are written up to the place that their number gives begin where the line ended
pub take-digits : (row digits new : List ℕ) (place start end : ℕ) → place ≤ length row → end ≡ place + length digits → start ≡ place → drop start new ≡ digits ++ drop end row → take start new ≡ take start row → take end new ≡ take place row ++ digits
take-digits row digits new place start end within at from written before =
    let front = take place row ++ digits in
    let size : length front ≡ end = omega (arith, length-append (take place row) digits, length-take-le place row within) in
    let whole : new ≡ front ++ drop end row = sym (take-append-drop start new) ∙ ap (λ x. x ++ drop start new) (before ∙ ap (λ k. take k row) from) ∙ ap (λ x. take place row ++ x) written ∙ sym (append_assoc (take place row) digits (drop end row)) in
    ap (take end) whole ∙ ap (λ k. take k (front ++ drop end row)) (sym size) ∙ take-append_seam front (drop end row)

-- what is behind the digits was there before
pub drop-digits : (row digits new : List ℕ) (place start end : ℕ) → end ≡ place + length digits → start ≡ place → drop start new ≡ digits ++ drop end row → drop end new ≡ drop end row
drop-digits row digits new place start end at from written =
    let next : end ≡ start + length digits = omega arith in
    ap (λ k. drop k new) next
    ∙ sym (drop-drop (length digits) start new)
    ∙ ap (drop (length digits)) written
    ∙ drop-append_seam digits (drop end row)

ten-power : (k : ℕ) → 1 ≤ 10 ^ k
ten-power zero = omega arith
ten-power (suc k) = omega (arith, pow-succ' 10 k, ten-power k)

-- a number has a digit for each power of ten that it reaches
length-reached : (k n : ℕ) → 10 ^ k ≤ n → n < 2 ^ 64 → k < length (decimal n)
length-reached zero n least fits = decimal_nonempty n fits
length-reached (suc k) n least fits =
    let high : 10 ≤ n = omega (arith, least, pow-succ' 10 k, ten-power k) in
    let next : 10 ^ k ≤ n / 10 = omega (arith, least, pow-succ' 10 k) in
    omega (arith, length_step_wide n high (omega (arith, fits)), length-reached k (n / 10) next (omega (arith, fits)))

-- and no more
pub length-power : (k n : ℕ) → 10 ^ k ≤ n → n < 10 * 10 ^ k → n < 2 ^ 64 → k + 1 ≡ length (decimal n)
length-power k n least most fits = omega (arith, length-reached k n least fits, length-decimal-le (suc k) n (omega arith) (omega (arith, most, pow-succ' 10 k)) fits)
