-- An inert text, byte by byte.
use Rattle.std.proofs.Common.{ℕ, zero, suc, ◌≡◌, ◌∙◌, ◌+◌, ◌-◌, ◌*◌, ◌/◌, ◌%◌, ◌<◌, ◌≤◌, ◌==◌, Bool, true, false, ◌&&◌, List, [], ◌∷◌, ◌++◌, ap, refl, length, arith}
use Rattle.std.specs.List.{list_all}
use Rattle.std.proofs.lemmas.Bool.Decides.{nat_tests}
use Rattle.std.proofs.lemmas.List.Folds.{list_all-append}
use Rattle.std.proofs.lemmas.List.{length-append}
use Rattle.text_core.specs.Escape.{are_bytes, byte_text, inert, inert_byte, hex_digit, hex_value, is_byte, is_inert, is_marked, is_plain, read}

inert_letter : (n : ℕ) → 97 ≤ n → n ≤ 122 → is_inert n ≡ true
inert_letter n low high = grind (arith, nat_tests)

inert_digit : (n : ℕ) → 48 ≤ n → n ≤ 57 → is_inert n ≡ true
inert_digit n low high = grind (arith, nat_tests)

plain_inert : (b : ℕ) → is_plain b ≡ true → is_inert b ≡ true
plain_inert b plain = grind (arith, nat_tests)

plain_begins_nothing : (b : ℕ) → is_plain b ≡ true → (b == 38) ≡ false
plain_begins_nothing b plain = grind (arith, nat_tests)

marked_below : (b : ℕ) → is_marked b ≡ true → b < 63
marked_below b marked = grind (arith, nat_tests)

hex_low : (d : ℕ) → d < 16 → hex_value (hex_digit d) ≡ d
hex_low d low = grind (arith, nat_tests)

inert_hex : (d : ℕ) → d < 16 → is_inert (hex_digit d) ≡ true
inert_hex d low = grind (arith, nat_tests)

below_16 : (b : ℕ) → b < 256 → b / 16 < 16
below_16 b low = omega arith

inert_two : (p q : ℕ) → is_inert p ≡ true → is_inert q ≡ true → list_all is_inert (38 ∷ 35 ∷ p ∷ q ∷ 59 ∷ []) ≡ true
inert_two p q hp hq = rw (hp, hq) refl

inert_byte_by : (plain marked : Bool) (b : ℕ) → is_plain b ≡ plain → is_marked b ≡ marked → b < 256 → list_all is_inert (byte_text plain marked b) ≡ true
inert_byte_by true marked b plain_is marked_is low = rw (plain_inert b plain_is) refl
inert_byte_by false true b plain_is marked_is low =
    let small = marked_below b marked_is in
    inert_two (48 + b / 10) (48 + b % 10) (inert_digit (48 + b / 10) (omega arith) (omega arith)) (inert_digit (48 + b % 10) (omega arith) (omega arith))
inert_byte_by false false b plain_is marked_is low =
    rw (inert_hex (b / 16) (below_16 b low), inert_hex (b % 16) (omega arith)) refl

byte_low : (b : ℕ) → is_byte b ≡ true → b < 256
byte_low b is = grind (arith, nat_tests)

first_is : (p q : Bool) → (p && q) ≡ true → p ≡ true
first_is true q e = refl
first_is false q e = e

second_is : (p q : Bool) → (p && q) ≡ true → q ≡ true
second_is true q e = e
second_is false true e = refl
second_is false false e = e

pub inert_all : (text : List ℕ) → are_bytes text ≡ true → list_all is_inert (inert text) ≡ true
inert_all [] bytes = refl
inert_all (b ∷ text) bytes =
    let here = inert_byte_by (is_plain b) (is_marked b) b refl refl (byte_low b (first_is (is_byte b) (are_bytes text) bytes)) in
    let there = inert_all text (second_is (is_byte b) (are_bytes text) bytes) in
    list_all-append is_inert (inert_byte b) (inert text) ∙ rw (here, there) refl

tens : (b : ℕ) → 10 * ((48 + b / 10) - 48) + ((48 + b % 10) - 48) ≡ b
tens b = omega arith

sixteens : (b : ℕ) → b < 256 → 16 * hex_value (hex_digit (b / 16)) + hex_value (hex_digit (b % 16)) ≡ b
sixteens b low = let high = hex_low (b / 16) (below_16 b low) in let small = hex_low (b % 16) (omega arith) in rw (high, small) (omega arith)

no_backslash : (b : ℕ) → is_marked b ≡ true → (b == 92) ≡ false
no_backslash b marked = grind (arith, nat_tests)

read_byte : (plain marked : Bool) (b n : ℕ) (rest : List ℕ) → is_plain b ≡ plain → is_marked b ≡ marked → b < 256 → read (suc n) (byte_text plain marked b ++ rest) ≡ b ∷ read n rest
read_byte true marked b n rest plain_is marked_is low = rw (plain_begins_nothing b plain_is) refl
read_byte false true b n rest plain_is marked_is low = rw (tens b, no_backslash b marked_is) refl
read_byte false false b n rest plain_is marked_is low = rw (sixteens b low) refl

some_bytes : (plain marked : Bool) (b : ℕ) → 1 ≤ length (byte_text plain marked b)
some_bytes true marked b = omega arith
some_bytes false true b = omega arith
some_bytes false false b = omega arith

read_nothing : (n : ℕ) → read n [] ≡ []
read_nothing zero = refl
read_nothing (suc n) = refl

read_all : (text : List ℕ) (n : ℕ) → are_bytes text ≡ true → length (inert text) ≤ n → read n (inert text) ≡ text
read_all [] n bytes enough = read_nothing n
read_all (b ∷ text) zero bytes enough =
    let some = some_bytes (is_plain b) (is_marked b) b in
    absurd (omega (arith, length-append (inert_byte b) (inert text)))
read_all (b ∷ text) (suc n) bytes enough =
    let some = some_bytes (is_plain b) (is_marked b) b in
    let left : length (inert text) ≤ n = omega (arith, length-append (inert_byte b) (inert text)) in
    let low = byte_low b (first_is (is_byte b) (are_bytes text) bytes) in
    read_byte (is_plain b) (is_marked b) b n (inert text) refl refl low
    ∙ ap (λ xs. b ∷ xs) (read_all text n (second_is (is_byte b) (are_bytes text) bytes) left)

pub read_back : (text : List ℕ) → are_bytes text ≡ true → read (length (inert text)) (inert text) ≡ text
read_back text bytes = read_all text (length (inert text)) bytes (omega arith)
