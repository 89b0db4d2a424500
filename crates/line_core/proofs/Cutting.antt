-- The bytes of a line that are kept.
use Rattle.std.proofs.Common.{◌≡◌, ℕ, ◌+◌, ◌-◌, ◌≤◌, inl, inr, min, List, [], ◌++◌, length, take, sym, ap, ◌∙◌, append-nil, length-take, arith}
use borrow.Rule.Slice.PartMut.{put_mid}
use Rattle.std.proofs.Math.Seq.{take-append-add}
use Rattle.std.proofs.lemmas.Bool.{cases_lt}
use Rattle.std.proofs.lemmas.List.{take-append-le, take_all, take-take, take_min}
use Rattle.std.proofs.lemmas.Slice.{take-put_mid}
use Rattle.line_core.specs.declared.cutter.TheConstants.{HELD_BYTES}
use Rattle.line_core.specs.Cutting.{cut}

take-none : (n : ℕ) (xs : List ℕ) → n ≡ 0 → take n xs ≡ []
take-none n xs e = ap (λ k. take k xs) e

pub take-append : (n : ℕ) (xs ys : List ℕ) → take n (xs ++ ys) ≡ take n xs ++ take (n - length xs) ys
take-append n xs ys = elim (cases_lt (length xs) n) [
  | inl h ↦ (let split : n ≡ length xs + (n - length xs) = omega arith in
      ap (λ k. take k (xs ++ ys)) split ∙ take-append-add xs ys (n - length xs) ∙ ap (λ zs. zs ++ take (n - length xs) ys) (sym (take_all n xs (omega arith))))
  | inr h ↦ take-append-le n xs ys h ∙ sym (append-nil (take n xs)) ∙ ap (λ zs. take n xs ++ zs) (sym (take-none (n - length xs) ys (omega arith)))
]

pub take-take_append : (n : ℕ) (xs ys : List ℕ) → take n (take n xs ++ ys) ≡ take n (xs ++ ys)
take-take_append n xs ys =
    let same : n - length (take n xs) ≡ n - length xs = omega (arith, length-take n xs) in
    take-append n (take n xs) ys ∙ ap (λ zs. zs ++ take (n - length (take n xs)) ys) (take-take n n xs (omega arith)) ∙ ap (λ k. take n xs ++ take k ys) same ∙ sym (take-append n xs ys)

abbrev no_bytes : List ℕ
no_bytes = []

pub take-nothing : (n : ℕ) → take n no_bytes ≡ no_bytes
take-nothing n = take_all n no_bytes (omega arith)

pub cut-none : cut no_bytes ≡ no_bytes
cut-none = take-nothing HELD_BYTES

-- the kept bytes with more bytes
pub cut-more : (xs ys : List ℕ) → cut (cut xs ++ ys) ≡ cut (xs ++ ys)
cut-more xs ys = take-take_append HELD_BYTES xs ys

-- more bytes after the first `len` of `held`
pub held-more : (held bytes new : List ℕ) (len count : ℕ) → length held ≡ HELD_BYTES → len ≤ HELD_BYTES → count ≡ min (HELD_BYTES - len) (length bytes) → new ≡ take count bytes
    → take (len + count) (put_mid len (len + count - len) held new) ≡ cut (take len held ++ bytes)
held-more held bytes new len count full few is e =
    let room : HELD_BYTES - length (take len held) ≡ HELD_BYTES - len = omega (arith, length-take len held) in
    let many : length new ≡ count = ap length e ∙ omega (arith, length-take count bytes) in
    take-put_mid len (len + count - len) held new (len + count) (omega (arith, many)) (omega (arith, full)) ∙ ap (λ ys. take len held ++ ys) (e ∙ ap (λ k. take k bytes) is ∙ take_min (HELD_BYTES - len) bytes) ∙ sym (take-append HELD_BYTES (take len held) bytes ∙ ap (λ zs. zs ++ take (HELD_BYTES - length (take len held)) bytes) (take_all HELD_BYTES (take len held) (omega (arith, length-take len held))) ∙ ap (λ k. take len held ++ take k bytes) room)
