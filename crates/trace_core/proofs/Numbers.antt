-- Numbers from their digits.
use Rattle.std.proofs.Common.{◌≡◌, ℕ, ◌+◌, ◌-◌, ◌*◌, ◌<◌, ◌≤◌, true, false, ◌&&◌, nat_le, nat_lt, cond, List, length, get_or, take, None, Some, refl, sym, ap, ◌∙◌, arith}
use Rattle.std.specs.Char.{is_ascii_digit, digit_value}
use Rattle.std.specs.Int.{IsInRange}
use Rattle.std.specs.Str.{all_ascii_digits}
use Rattle.std.specs.Str.Parse.{AllDigits, digits_value}
use Rattle.std.proofs.lemmas.Bool.{and_from, and_left, and_right, le-leb, lt-ltb, le-ltb}
use Rattle.std.proofs.lemmas.Bool.Decides.{nat_tests}
use Rattle.std.proofs.lemmas.Int.Digits.{digits_more, digits_value_more}
use Rattle.std.proofs.lemmas.List.Recursion.{and_fails_at}
use Rattle.std.proofs.lemmas.Str.Parse.{numerals_by_value, tells_all_ascii_digits, digits_value-take-le}
use Rattle.trace_core.specs.Number.{is_numeral, numeral}

module _ (limit : ℕ) (word : List ℕ) where
  numeral-no : is_numeral limit word ≡ false → None ≡ numeral limit word
  unfolding numeral
  numeral-no e = ap (λ b. cond b (Some (digits_value 10 word)) None) (sym e)

  pub numeral-empty : length word ≡ 0 → None ≡ numeral limit word
  numeral-empty e =
      numeral-no (and_left (nat_le 1 (length word) && all_ascii_digits word) (nat_lt (digits_value 10 word) limit) (and_left (nat_le 1 (length word)) (all_ascii_digits word) (grind (arith, nat_tests))))

  pub numeral-no_digit : (i : ℕ) → i < length word → is_ascii_digit (get_or word i 0) ≡ false → None ≡ numeral limit word
  numeral-no_digit i h e =
      let no : all_ascii_digits word ≡ false = and_fails_at all_ascii_digits is_ascii_digit refl (λ _ _. refl) word i 0 h e in
      numeral-no (and_left (nat_le 1 (length word) && all_ascii_digits word) (nat_lt (digits_value 10 word) limit) (and_right (nat_le 1 (length word)) (all_ascii_digits word) no))

  pub numeral-large : (i : ℕ) → limit ≤ digits_value 10 (take i word) → None ≡ numeral limit word
  numeral-large i h =
      let large : limit ≤ digits_value 10 word = omega (arith, digits_value-take-le 10 word i (omega arith)) in
      numeral-no (and_right (nat_le 1 (length word) && all_ascii_digits word) (nat_lt (digits_value 10 word) limit) (le-ltb (digits_value 10 word) limit large))

  pub numeral-some : (n : ℕ) → 1 ≤ length word → AllDigits 10 word → n ≡ digits_value 10 word → n < limit → Some n ≡ numeral limit word
  unfolding numeral
  numeral-some n one digits e h =
      let all : all_ascii_digits word ≡ true = (numerals_by_value (λ ds. all_ascii_digits ds ≡ true) tells_all_ascii_digits).from word digits in
      let small : nat_lt (digits_value 10 word) limit ≡ true = lt-ltb (digits_value 10 word) limit (omega arith) in
      let is : is_numeral limit word ≡ true = and_from (nat_le 1 (length word) && all_ascii_digits word) (nat_lt (digits_value 10 word) limit) (and_from (nat_le 1 (length word)) (all_ascii_digits word) (le-leb 1 (length word) one) all) small in
      ap Some e ∙ ap (λ b. cond b (Some (digits_value 10 word)) None) (sym is)

value-digit : (c : ℕ) → IsInRange 48 57 c → digit_value c ≡ c - 48
value-digit c digit = grind (arith, nat_tests)

pub digits_value-more : (word : List ℕ) (i value : ℕ) → i < length word → value ≡ digits_value 10 (take i word) → IsInRange 48 57 (get_or word i 0) → digits_value 10 (take (i + 1) word) ≡ value * 10 + (get_or word i 0 - 48)
digits_value-more word i value h e digit = digits_value_more 10 word i h ∙ ap (λ v. v * 10 + digit_value (get_or word i 0)) (sym e) ∙ ap (λ v. value * 10 + v) (value-digit (get_or word i 0) digit)

pub AllDigits-more : (word : List ℕ) (i : ℕ) → i < length word → AllDigits 10 (take i word) → IsInRange 48 57 (get_or word i 0) → AllDigits 10 (take (i + 1) word)
AllDigits-more word i h all digit = digits_more 10 word i h all (omega (arith, value-digit (get_or word i 0) digit, digit.0, digit.1))
