-- A text and the NUL after it, written over what was there.
use Rattle.std.proofs.Common.{◌≡◌, ℕ, zero, suc, ◌-◌, ◌≤◌, ap, refl, arith, List, [], ◌∷◌, ◌++◌, length, min, take, drop, slice_set}
use Rattle.c_handle.specs.Rows.{over}

nul-at : (text old : List ℕ) (n room : ℕ) → length old ≡ suc room → n ≡ min (length text) room → slice_set (take n text ++ drop n old) n 0 ≡ over (take room text ++ 0 ∷ []) old
nul-at text [] n room wide fits = absurd (omega (arith, wide))
nul-at [] (y ∷ old) zero zero wide fits = refl
nul-at [] (y ∷ old) zero (suc room) wide fits = refl
nul-at [] (y ∷ old) (suc n) room wide fits = absurd (omega (arith, fits))
nul-at (x ∷ text) (y ∷ old) zero zero wide fits = refl
nul-at (x ∷ text) (y ∷ old) (suc n) zero wide fits = absurd (omega (arith, fits))
nul-at (x ∷ text) (y ∷ old) zero (suc room) wide fits = absurd (omega (arith, fits))
nul-at (x ∷ text) (y ∷ old) (suc n) (suc room) wide fits = ap (λ l. x ∷ l) (nul-at text old n room (omega (arith, wide)) (omega (arith, fits)))

-- as much of a text as there is room for is written, and a NUL after it
pub over-nul : (text old : List ℕ) (n : ℕ) → 1 ≤ length old → n ≡ min (length text) (length old - 1) → slice_set (take n text ++ drop n old) n 0 ≡ over (take (length old - 1) text ++ 0 ∷ []) old
over-nul text old n wide fits = nul-at text old n (length old - 1) (omega (arith, wide)) fits
