-- The low half of a point of 64 bits.
use Rattle.std.proofs.Common.{◌≡◌, ℕ, ◌+◌, ◌-◌, ◌%◌, ◌^◌, ◌<◌, nat_lt, inl, inr, arith}
use Rattle.std.proofs.lemmas.Bool.{cases_Bool}
use Rattle.device_core.specs.theorem.Wrapping.{ahead_of, unwrapped}

ahead : (value point : ℕ) → point < 2 ^ 32 → (value + ahead_of value point) % 2 ^ 32 ≡ point
ahead value point small = omega arith

pub low_half : (value point : ℕ) → point < 2 ^ 32 → value < unwrapped value point → unwrapped value point % 2 ^ 32 ≡ point
low_half value point small above = elim (cases_Bool (nat_lt (ahead_of value point) (2 ^ 31))) [
  | inl near ↦ rw near (ahead value point small)
  | inr far ↦ absurd (behind value (2 ^ 32 - ahead_of value point) (rw far at above))
]
  where
    behind : (v x : ℕ) → v < v - x → ⊥
    behind v x h = omega arith
