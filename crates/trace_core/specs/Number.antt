-- Numbers of a line.
use Rattle.std.specs.Prelude.{ℕ, ◌+◌, ◌*◌, ◌-◌, ◌^◌, ◌==◌, Bool, ◌&&◌, ◌||◌, nat_le, nat_lt, if◌then◌else◌, List, ◌++◌, length, take, drop, Option, None, Some, option_map, codes}
use Rattle.std.specs.Char.{is_ascii_digit}
use Rattle.std.specs.List.{prefix_len, suffix_len}
use Rattle.std.specs.Option.{option_and_then}
use Rattle.std.specs.Str.{all_ascii_digits}
use Rattle.std.specs.Str.Parse.{digits_value}
use Rattle.trace_core.specs.declared.number.TheConstants.{DECIMALS, SECOND}
use Rattle.trace_core.specs.Steps.{after, before, part_at}

-- one digit or more, with a value below the limit; leading zeros are allowed
abbrev pub is_numeral : ℕ → List ℕ → Bool
is_numeral limit word =
    nat_le 1 (length word) && all_ascii_digits word && nat_lt (digits_value 10 word) limit

unfoldable pub numeral : ℕ → List ℕ → Option ℕ
numeral limit word = if is_numeral limit word then Some (digits_value 10 word) else None

-- the number that the bytes begin with, and what follows its digits
unfoldable pub number_at : ℕ → List ℕ → Option (ℕ × List ℕ)
number_at limit bytes =
    option_map
    (λ n. (n, drop (prefix_len is_ascii_digit bytes) bytes))
    (numeral limit (take (prefix_len is_ascii_digit bytes) bytes))

-- where the digits at the end begin
abbrev pub end_digits : List ℕ → ℕ
end_digits bytes = length bytes - suffix_len is_ascii_digit bytes

-- the bytes before the text and a number of 32 bits, if they end with these, and that number
unfoldable pub number_at_end : List ℕ → List ℕ → Option (List ℕ × ℕ)
number_at_end text bytes =
    option_and_then
    (λ front. option_map (λ n. (front, n)) (numeral (2 ^ 32) (drop (end_digits bytes) bytes)))
    (before (take (end_digits bytes) bytes) text)

-- seconds and a part of one, in microseconds, where that has 64 bits
abbrev pub microseconds : ℕ → ℕ → Option ℕ
microseconds seconds part = if nat_lt (seconds * SECOND + part) (2 ^ 64) then Some (seconds * SECOND + part) else None

-- the first six decimals are read
unfoldable pub time_of : ℕ → List ℕ → Option ℕ
time_of seconds decimals =
    if nat_lt (length decimals) DECIMALS then None
    else option_and_then (microseconds seconds) (numeral (2 ^ 64) (take DECIMALS decimals))

-- the time of these seconds, and what follows the decimals
abbrev pub with_decimals : ℕ → List ℕ → Option (ℕ × List ℕ)
with_decimals seconds bytes =
    option_map
    (λ time. (time, drop (prefix_len is_ascii_digit bytes) bytes))
    (time_of seconds (take (prefix_len is_ascii_digit bytes) bytes))

-- the time that the bytes begin with, and what follows it
unfoldable pub time_at : List ℕ → Option (ℕ × List ℕ)
time_at bytes =
    option_and_then
    (λ seconds. option_and_then (with_decimals seconds.0) (after seconds.1 (codes ".")))
    (number_at (2 ^ 64) bytes)

-- six decimals, with zeros for those that are missing
abbrev pub filled : List ℕ → List ℕ
filled decimals = decimals ++ drop (length decimals) (codes "000000")

-- one to six decimals of a second, in microseconds
unfoldable pub fraction : List ℕ → Option ℕ
fraction decimals =
    if length decimals == 0 || nat_lt DECIMALS (length decimals) then None else numeral (2 ^ 64) (filled decimals)

-- seconds, with decimals where there is a point
abbrev pub time_in : List ℕ → Option (List ℕ × List ℕ) → Option ℕ
time_in word None = option_and_then (λ seconds. microseconds seconds 0) (numeral (2 ^ 64) word)
time_in word (Some parts) =
    option_and_then (λ seconds. option_and_then (microseconds seconds) (fraction parts.1)) (numeral (2 ^ 64) parts.0)

-- the time that a word spells in seconds, in microseconds
unfoldable pub time_spelled : List ℕ → Option ℕ
time_spelled word = time_in word (part_at (codes ".") word)
