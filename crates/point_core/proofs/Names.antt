-- A name as it is stored.
use Rattle.std.proofs.Common.{◌≡◌, ℕ, ◌++◌, ◌-◌, ◌≤◌, nat_eq, List, length, take, drop, replicate, slice_set, sym, ap, subst, ◌∙◌, arith}
use Rattle.std.proofs.lemmas.List.{length-append, length-replicate, get_or-set_same, take-set-le, drop-replicate}
use Rattle.std.proofs.Math.Seq.{take-append_seam}
use Rattle.std.specs.Bool.{one_answer}
use Rattle.std.specs.Cmp.Lexicographic.{bytes_decides}
use lib.Pointwise.{pointwise}
use Rattle.point_core.specs.Name.{IsName, IsStored, padded, stored_of, bytes_of}

pub length-padded : (bytes : List ℕ) → length bytes ≤ 32 → length (padded bytes) ≡ 32
length-padded bytes few =
    let zeros : List ℕ = replicate (32 - length bytes) 0 in
    omega (arith, length-append bytes zeros, length-replicate {A = ℕ} (32 - length bytes) 0)

pub bytes-of_stored : (bytes : List ℕ) → length bytes ≤ 31 → bytes_of (stored_of bytes) ≡ bytes
bytes-of_stored bytes few =
    let zeros : List ℕ = replicate (32 - length bytes) 0 in
    ap (λ n. take n (stored_of bytes)) (get_or-set_same (padded bytes) 31 (length bytes) 0 (omega (arith, length-padded bytes (omega arith))))
    ∙ take-set-le (length bytes) (padded bytes) 31 (length bytes) few ∙ take-append_seam bytes zeros

pub IsStored-stored : (bytes : List ℕ) → IsName bytes → IsStored (stored_of bytes)
IsStored-stored bytes is =
    let back = bytes-of_stored bytes is.1 in
    (subst IsName (sym back) is, ap stored_of back)

-- stored names are equal exactly if their bytes are
pub same_names : (a b x y : List ℕ) → bytes_of a ≡ x → bytes_of b ≡ y → IsStored a → IsStored b → pointwise nat_eq a b ≡ pointwise nat_eq x y
same_names a b x y p q s t =
    one_answer _ _ (
      λ e. sym p ∙ ap bytes_of ((bytes_decides a b).0 e) ∙ q,
      λ e. (bytes_decides a b).1 (sym s.1 ∙ ap stored_of (p ∙ e ∙ sym q) ∙ t.1),
    ) (bytes_decides x y)

-- bytes that were copied to the front of zeros, and their length
pub stored-after_copy : (bytes copied : List ℕ) → copied ≡ bytes → slice_set (copied ++ drop (length bytes) (replicate 32 0)) 31 (length bytes) ≡ stored_of bytes
stored-after_copy bytes copied same =
    ap (λ front. slice_set (front ++ drop (length bytes) (replicate 32 0)) 31 (length bytes)) same
    ∙ ap (λ zeros. slice_set (bytes ++ zeros) 31 (length bytes)) (drop-replicate (length bytes) 32 0)
