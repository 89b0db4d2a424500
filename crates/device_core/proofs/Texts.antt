-- Texts that are cut, and ended by zeros.
use Rattle.std.proofs.Common.{ℕ, ◌≡◌, ◌-◌, ◌<◌, ◌≤◌, ◌^◌, min, zero, suc, List, [], ◌∷◌, ◌++◌, length, get_or, take, drop, replicate, decimal, refl, sym, ap, ◌∙◌, arith}
use Rattle.std.proofs.lemmas.Bool.{eq-eqb, ne_eqb}
use Rattle.std.proofs.lemmas.Fmt.{length-decimal-le}
use Rattle.std.proofs.lemmas.List.{length-take, length-drop, take_min, drop-replicate}
use Rattle.device_core.specs.theorem.Names.{up_to_zero, cut, padded}

-- bytes that were copied before zeros
pub padded-cut : (bytes part : List ℕ) (count end : ℕ) → part ≡ take count bytes → count ≡ end → end ≡ min 31 (length bytes) → part ++ drop end (replicate 32 0) ≡ padded (cut bytes)
padded-cut bytes part count end is same low =
    let whole : take count bytes ≡ take 31 bytes = ap (λ n. take n bytes) (same ∙ low) ∙ take_min 31 bytes in
    let len : length (take 31 bytes) ≡ end = length-take 31 bytes ∙ sym low in
    ap (λ p. p ++ drop end (replicate 32 0)) (is ∙ whole)
    ∙ ap (λ z. take 31 bytes ++ z) (drop-replicate end 32 0)
    ∙ ap (λ n. take 31 bytes ++ replicate (32 - n) 0) (sym len)

-- up to the first 0, or all bytes
pub up_to_zero-at : (bs : List ℕ) (n : ℕ) → n ≤ length bs → ((k : ℕ) → k < n → get_or bs k 0 ≡ 0 → ⊥) → get_or bs n 0 ≡ 0 → take n bs ≡ up_to_zero bs
up_to_zero-at [] zero low none is = refl
up_to_zero-at [] (suc n) low none is = absurd (omega arith)
up_to_zero-at (b ∷ bs) zero low none is = rw (eq-eqb b 0 is) refl
up_to_zero-at (b ∷ bs) (suc n) low none is =
    rw (ne_eqb b 0 (none 0 (omega arith))) (ap (λ xs. b ∷ xs) (up_to_zero-at bs n (omega arith) (λ k below. none (suc k) (omega arith)) is))

-- the digits of a number of 64 bits
pub length-digits : (number : ℕ) → number < 2 ^ 64 → length (decimal number) ≤ 20
length-digits number n = length-decimal-le 20 number (omega arith) (omega arith) n

-- the length of a line that begins at a place
pub length-line : (bytes : List ℕ) (start : ℕ) → length (drop start bytes) ≡ length bytes - start
length-line bytes start = length-drop start bytes
