-- Numbers of a line.
use Rattle.std.specs.Prelude.{ℕ, ◌^◌, Bool, ◌&&◌, nat_le, nat_lt, if◌then◌else◌, List, length, Option, None, Some}
use Rattle.std.specs.Str.{all_ascii_digits}
use Rattle.std.specs.Str.Parse.{digits_value}
use Rattle.line_core.specs.declared.number.TheConstants.{DIGITS}

-- 1 to DIGITS decimal digits, whose value has 64 bits. Leading zeros are allowed
abbrev pub is_number : List ℕ → Bool
is_number word =
    nat_le 1 (length word) && nat_le (length word) DIGITS && all_ascii_digits word
    && nat_lt (digits_value 10 word) (2 ^ 64)

abbrev pub number_of : List ℕ → Option ℕ
number_of word = if is_number word then Some (digits_value 10 word) else None
