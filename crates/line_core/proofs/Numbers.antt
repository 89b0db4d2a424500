-- Numbers of a line, from their digits.
use Rattle.std.proofs.Common.{◌≡◌, ℕ, ◌+◌, ◌-◌, ◌*◌, ◌<◌, ◌≤◌, ◌^◌, Bool, true, false, ◌&&◌, nat_le, nat_lt, cond, List, length, get_or, take, None, Some, refl, sym, ap, ◌∙◌, arith}
use Rattle.std.specs.Char.{is_ascii_digit, digit_value}
use Rattle.std.specs.Int.{IsInRange}
use Rattle.std.specs.Str.{all_ascii_digits}
use Rattle.std.specs.Str.Parse.{AllDigits, digits_value}
use Rattle.std.proofs.lemmas.Bool.{and_from, and_left, and_right, le-leb, lt-ltb, le-ltb}
use Rattle.std.proofs.lemmas.Bool.Decides.{nat_tests}
use Rattle.std.proofs.lemmas.Int.Digits.{digits_more, digits_value_more}
use Rattle.std.proofs.lemmas.List.Recursion.{and_fails_at}
use Rattle.std.proofs.lemmas.Str.Parse.{numerals_by_value, tells_all_ascii_digits, digits_value-take-le}
use Rattle.line_core.specs.declared.number.TheConstants.{DIGITS}
use Rattle.line_core.specs.Number.{is_number, number_of}

number_of-no : (word : List ℕ) → is_number word ≡ false → None ≡ number_of word
number_of-no word e = ap (λ b. cond b (Some (digits_value 10 word)) None) (sym e)

abbrev has_length : List ℕ → Bool
has_length word = nat_le 1 (length word) && nat_le (length word) DIGITS

abbrev has_digits : List ℕ → Bool
has_digits word = has_length word && all_ascii_digits word

abbrev has_value : List ℕ → Bool
has_value word = nat_lt (digits_value 10 word) (2 ^ 64)

pub number_of-no_digit : (word : List ℕ) (i : ℕ) → i < length word → is_ascii_digit (get_or word i 0) ≡ false → None ≡ number_of word
number_of-no_digit word i h e =
    let no : all_ascii_digits word ≡ false = and_fails_at all_ascii_digits is_ascii_digit refl (λ _ _. refl) word i 0 h e in
    number_of-no word (and_left (has_digits word) (has_value word) (and_right (has_length word) (all_ascii_digits word) no))

pub number_of-large : (word : List ℕ) (i : ℕ) → 2 ^ 64 ≤ digits_value 10 (take i word) → None ≡ number_of word
number_of-large word i h =
    let large : 2 ^ 64 ≤ digits_value 10 word = omega (arith, digits_value-take-le 10 word i (omega arith)) in
    number_of-no word (and_right (has_digits word) (has_value word) (le-ltb (digits_value 10 word) (2 ^ 64) large))

pub number_of-some : (word : List ℕ) (n : ℕ) → 1 ≤ length word → length word ≤ DIGITS → AllDigits 10 word → n ≡ digits_value 10 word → n < 2 ^ 64 → Some n ≡ number_of word
number_of-some word n one few digits e h =
    let all : all_ascii_digits word ≡ true = (numerals_by_value (λ ds. all_ascii_digits ds ≡ true) tells_all_ascii_digits).from word digits in
    let lengths : has_length word ≡ true = and_from (nat_le 1 (length word)) (nat_le (length word) DIGITS) (le-leb 1 (length word) one) (le-leb (length word) DIGITS few) in
    let small : has_value word ≡ true = lt-ltb (digits_value 10 word) (2 ^ 64) (omega arith) in
    let is : is_number word ≡ true = and_from (has_digits word) (has_value word) (and_from (has_length word) (all_ascii_digits word) lengths all) small in
    ap Some e ∙ ap (λ b. cond b (Some (digits_value 10 word)) None) (sym is)

value-digit : (c : ℕ) → IsInRange 48 57 c → digit_value c ≡ c - 48
value-digit c digit = grind (arith, nat_tests)

pub digits_value-more : (word : List ℕ) (i value : ℕ) → i < length word → value ≡ digits_value 10 (take i word) → IsInRange 48 57 (get_or word i 0) → digits_value 10 (take (i + 1) word) ≡ value * 10 + (get_or word i 0 - 48)
digits_value-more word i value h e digit = digits_value_more 10 word i h ∙ ap (λ v. v * 10 + digit_value (get_or word i 0)) (sym e) ∙ ap (λ v. value * 10 + v) (value-digit (get_or word i 0) digit)

pub AllDigits-more : (word : List ℕ) (i : ℕ) → i < length word → AllDigits 10 (take i word) → IsInRange 48 57 (get_or word i 0) → AllDigits 10 (take (i + 1) word)
AllDigits-more word i h all digit = digits_more 10 word i h all (omega (arith, value-digit (get_or word i 0) digit, digit.0, digit.1))
