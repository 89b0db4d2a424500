-- Escaped texts, and how they are read back.
use Rattle.std.specs.Prelude.{ℕ, zero, suc, ◌+◌, ◌-◌, ◌*◌, ◌/◌, ◌%◌, ◌==◌, nat_lt, nat_le, Bool, ◌&&◌, ◌||◌, not, if◌then◌else◌, List, [], ◌∷◌, length, drop, get_or}
use Rattle.std.specs.List.{flat_map, list_all}

abbrev pub is_byte : ℕ → Bool
is_byte b = nat_lt b 256

abbrev pub are_bytes : List ℕ → Bool
are_bytes bytes = list_all is_byte bytes

-- a quote, an ampersand, an apostrophe, or a sign of less or greater
abbrev pub is_marked : ℕ → Bool
is_marked b = b == 34 || b == 38 || b == 39 || b == 60 || b == 62

-- from a space to a tilde
abbrev pub prints : ℕ → Bool
prints b = nat_le 32 b && nat_lt b 127

-- 92 is the backslash, which begins an escape
abbrev pub is_literal : ℕ → Bool
is_literal b = prints b && not (b == 92)

abbrev pub is_plain : ℕ → Bool
is_plain b = is_literal b && not (is_marked b)

abbrev pub hex_digit : ℕ → ℕ
hex_digit d = if nat_lt d 10 then 48 + d else 97 + (d - 10)

-- the reference of a character by a number of two digits
abbrev pub reference : ℕ → List ℕ
reference n = 38 ∷ 35 ∷ (48 + n / 10) ∷ (48 + n % 10) ∷ 59 ∷ []

-- the reference of a backslash, `x`, and the two digits of a byte
abbrev pub hex_text : ℕ → List ℕ
hex_text b = 38 ∷ 35 ∷ 57 ∷ 50 ∷ 59 ∷ 120 ∷ hex_digit (b / 16) ∷ hex_digit (b % 16) ∷ []

-- a byte that is plain, or else marked
abbrev pub byte_text : Bool → Bool → ℕ → List ℕ
byte_text plain marked b = if plain then b ∷ [] else if marked then reference b else hex_text b

abbrev pub inert_byte : ℕ → List ℕ
inert_byte b = byte_text (is_plain b) (is_marked b) b

-- the text as a document has it
abbrev pub inert : List ℕ → List ℕ
inert text = flat_map inert_byte text

-- a byte as in a literal: itself, or `\x` and its two digits
abbrev pub literal_byte : ℕ → List ℕ
literal_byte b = if is_literal b then b ∷ [] else 92 ∷ 120 ∷ hex_digit (b / 16) ∷ hex_digit (b % 16) ∷ []

abbrev pub literal : List ℕ → List ℕ
literal text = flat_map literal_byte text

-- a byte that prints, and `?` for any other
abbrev pub noted : ℕ → ℕ
noted b = if prints b then b else 63

-- no byte that ends a text or starts markup; an ampersand starts a reference
abbrev pub is_inert : ℕ → Bool
is_inert b = prints b && not (b == 92) && not (b == 34 || b == 39 || b == 60 || b == 62)

abbrev pub hex_value : ℕ → ℕ
hex_value c = if nat_lt c 58 then c - 48 else c - 87

-- the number of a reference, whose two digits follow `#`
abbrev pub number_in : List ℕ → ℕ
number_in bytes = 10 * (get_or bytes 1 0 - 48) + (get_or bytes 2 0 - 48)

-- a reader of at most this many bytes: an ampersand begins a reference, and the reference of a backslash comes before `x` and
-- the two digits of a byte
abbrev pub read : ℕ → List ℕ → List ℕ
read zero bytes = []
read (suc n) [] = []
read (suc n) (b ∷ bytes) =
    if b == 38 then (if number_in bytes == 92
    then (16 * hex_value (get_or bytes 5 0) + hex_value (get_or bytes 6 0)) ∷ read n (drop 7 bytes)
    else number_in bytes ∷ read n (drop 4 bytes))
    else b ∷ read n bytes

abbrev pub unescaped : List ℕ → List ℕ
unescaped bytes = read (length bytes) bytes
