-- The first occurrence of a byte, as a search finds it.
use Rattle.std.proofs.Common.{◌≡◌, ℕ, Bool, cond, nat_lt, List, length, get_or, Option, None, Some, sym, ap, ◌∙◌, arith}
use Rattle.std.specs.List.{position_or_len, position}
use Rattle.std.proofs.lemmas.Bool.{lt-ltb, le-ltb, false_from_ne_true}
use Rattle.std.proofs.lemmas.List.Sums.{position_or_len_is}
use Rattle.memchr.specs.Find.{IsFirstByte, is_byte}

at : (test : ℕ → Bool) (xs : List ℕ) (k : ℕ) → position_or_len test xs ≡ k → position test xs ≡ cond (nat_lt k (length xs)) (Some k) None
at test xs k e = ap (λ n. cond (nat_lt n (length xs)) (Some n) None) e

pub first_byte : (byte : ℕ) (xs : List ℕ) (r : Option ℕ) → IsFirstByte (is_byte byte) xs r → r ≡ position (is_byte byte) xs
first_byte byte xs None none =
    let end : position_or_len (is_byte byte) xs ≡ length xs = position_or_len_is (is_byte byte) xs (length xs) 0 (omega arith) (λ k h. false_from_ne_true (is_byte byte (get_or xs k 0)) (none k (omega arith) h)) (λ h. absurd (omega (arith, h))) in
    sym (at (is_byte byte) xs (length xs) end ∙ ap (λ b. cond b (Some (length xs)) None) (le-ltb (length xs) (length xs) (omega arith)))
first_byte byte xs (Some k) is =
    let here : position_or_len (is_byte byte) xs ≡ k = position_or_len_is (is_byte byte) xs k 0 (omega (arith, is.0.high)) (λ j h. false_from_ne_true (is_byte byte (get_or xs j 0)) (is.0.before j (omega arith) h)) (λ h. is.1) in
    sym (at (is_byte byte) xs k here ∙ ap (λ b. cond b (Some k) None) (lt-ltb k (length xs) is.0.high))
