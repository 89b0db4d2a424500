-- What each step of reading takes, and that it takes just what was printed.
use Rattle.std.proofs.Common.{◌≡◌, ℕ, zero, suc, ◌+◌, ◌<◌, ◌≤◌, Bool, true, false, ◌&&◌, not, nat_le, nat_lt, cond, List, [], ◌∷◌, ◌++◌, length, take, drop, Option, None, Some, option_map, codes, refl, sym, ap, subst, ◌∙◌, take-append-drop, arith}
use Rattle.std.specs.Char.{is_ascii_digit}
use Rattle.std.specs.List.{list_all, prefix_len}
use Rattle.std.specs.Option.{option_and_then}
use Rattle.std.specs.Str.{all_ascii_digits, bytes_eq}
use Rattle.std.specs.Str.Parse.{digits_value}
use Rattle.std.proofs.lemmas.Bool.{false≢true, and_from, le-leb, lt-ltb, eqb-true}
use Rattle.std.proofs.lemmas.Bool.Decides.{nat_tests}
use Rattle.std.proofs.lemmas.List.{take_at, drop_at}
use Rattle.std.proofs.lemmas.Slice.Eq.{bytes_eq-Decides}
use Rattle.trace_core.specs.Number.{is_numeral, numeral, number_at}
use Rattle.trace_core.specs.Printing.{Spells, AreBlanks}
use Rattle.trace_core.specs.declared.runs.Class.TheVariants.{Dark}
use Rattle.trace_core.specs.Runs.{is_blank, is_of}
use Rattle.trace_core.specs.Steps.{after, without_blanks, after_blanks}

pub and_parts : (a b : Bool) → (a && b) ≡ true → (a ≡ true) × (b ≡ true)
and_parts true b e = (refl, e)
and_parts false b e = absurd (false≢true e)

pub and_then-some : {A B : Type 0} (f : A → Option B) (o : Option A) (b : B) → option_and_then f o ≡ Some b → (a : A) × (o ≡ Some a) × (f a ≡ Some b)
and_then-some f None b e = absurd (cc)
and_then-some f (Some a) b e = (a, refl, e)

pub map-some : {A B : Type 0} (f : A → B) (o : Option A) (b : B) → option_map f o ≡ Some b → (a : A) × (o ≡ Some a) × (f a ≡ b)
map-some f None b e = absurd (cc)
map-some f (Some a) b e = (a, refl, cc)

pub if-some : {A : Type 0} (b : Bool) (x y : A) → cond b (Some x) None ≡ Some y → (b ≡ true) × (x ≡ y)
if-some true x y e = (refl, cc)
if-some false x y e = absurd (cc)

-- the bytes do not begin with one that passes
abbrev pub EndsRun : (ℕ → Bool) → List ℕ → Type 0
EndsRun p [] = Unit {0}
EndsRun p (x ∷ xs) = p x ≡ false

module _ (p : ℕ → Bool) where
  pub run-append : (xs rest : List ℕ) → list_all p xs ≡ true → EndsRun p rest → prefix_len p (xs ++ rest) ≡ length xs
  run-append [] [] all ends = refl
  run-append [] (y ∷ ys) all ends = ap (λ b. cond b (1 + prefix_len p ys) 0) ends
  run-append (x ∷ xs) rest all ends =
      let parts = and_parts (p x) (list_all p xs) all in
      let more = run-append xs rest parts.1 ends in
      let next : 1 + prefix_len p (xs ++ rest) ≡ suc (length xs) = omega arith in
      ap (λ b. cond b (1 + prefix_len p (xs ++ rest)) 0) parts.0 ∙ next

  pub drop-run : (xs rest : List ℕ) → list_all p xs ≡ true → EndsRun p rest → drop (prefix_len p (xs ++ rest)) (xs ++ rest) ≡ rest
  drop-run xs rest all ends =
      ap (λ n. drop n (xs ++ rest)) (run-append xs rest all ends) ∙ drop_at xs rest (length xs) refl

  pub take-run : (xs rest : List ℕ) → list_all p xs ≡ true → EndsRun p rest → take (prefix_len p (xs ++ rest)) (xs ++ rest) ≡ xs
  take-run xs rest all ends =
      ap (λ n. take n (xs ++ rest)) (run-append xs rest all ends) ∙ take_at xs rest (length xs) refl

  run-all_step : (x : ℕ) (xs : List ℕ) (b : Bool) → p x ≡ b → list_all p (take (prefix_len p xs) xs) ≡ true → list_all p (take (cond b (1 + prefix_len p xs) 0) (x ∷ xs)) ≡ true
  run-all_step x xs true e more =
      let next : 1 + prefix_len p xs ≡ suc (prefix_len p xs) = omega arith in
      ap (λ n. list_all p (take n (x ∷ xs))) next ∙ and_from (p x) (list_all p (take (prefix_len p xs) xs)) e more
  run-all_step x xs false e more = refl

  pub run-all : (xs : List ℕ) → list_all p (take (prefix_len p xs) xs) ≡ true
  run-all [] = refl
  run-all (x ∷ xs) = run-all_step x xs (p x) refl (run-all xs)

  run-parts : (xs : List ℕ) → xs ≡ take (prefix_len p xs) xs ++ drop (prefix_len p xs) xs
  run-parts xs = sym (take-append-drop (prefix_len p xs) xs)

  -- a run at the front, and what follows it
  pub run-is : (xs : List ℕ) → (front : List ℕ) × (xs ≡ front ++ drop (prefix_len p xs) xs) × (front ≡ take (prefix_len p xs) xs) × (list_all p front ≡ true)
  run-is xs = (take (prefix_len p xs) xs, run-parts xs, refl, run-all xs)

pub after-text : (text rest : List ℕ) → after (text ++ rest) text ≡ Some rest
unfolding after
after-text text rest =
    let same = (bytes_eq-Decides (take (length text) (text ++ rest)) text).1 (take_at text rest (length text) refl) in
    ap (λ b. cond b (Some (drop (length text) (text ++ rest))) None) same ∙ ap Some (drop_at text rest (length text) refl)

pub after-is : (bytes text rest : List ℕ) → after bytes text ≡ Some rest → bytes ≡ text ++ rest
unfolding after
after-is bytes text rest e =
    let found = if-some (bytes_eq (take (length text) bytes) text) (drop (length text) bytes) rest e in
    let begins = (bytes_eq-Decides (take (length text) bytes) text).0 found.0 in
    sym (take-append-drop (length text) bytes) ∙ ap (λ xs. xs ++ drop (length text) bytes) begins ∙ ap (λ xs. text ++ xs) found.1

digits-same : (xs : List ℕ) → all_ascii_digits xs ≡ list_all is_ascii_digit xs
digits-same [] = refl
digits-same (x ∷ xs) = ap (λ b. is_ascii_digit x && b) (digits-same xs)

pub numeral-spelt : (limit : ℕ) (digits : List ℕ) (n : ℕ) → Spells limit digits n → numeral limit digits ≡ Some n
unfolding numeral
numeral-spelt limit digits n s =
    let each : all_ascii_digits digits ≡ true = digits-same digits ∙ s.each in
    let fits : nat_lt (digits_value 10 digits) limit ≡ true = lt-ltb (digits_value 10 digits) limit (omega (arith, s.value, s.fits)) in
    let is : is_numeral limit digits ≡ true = and_from (nat_le 1 (length digits) && all_ascii_digits digits) (nat_lt (digits_value 10 digits) limit) (and_from (nat_le 1 (length digits)) (all_ascii_digits digits) (le-leb 1 (length digits) s.some) each) fits in
    ap (λ b. cond b (Some (digits_value 10 digits)) None) is ∙ ap Some s.value

pub numeral-is : (limit : ℕ) (digits : List ℕ) (n : ℕ) → numeral limit digits ≡ Some n → Spells limit digits n
unfolding numeral
numeral-is limit digits n e =
    let found = if-some (is_numeral limit digits) (digits_value 10 digits) n e in
    let both = and_parts (nat_le 1 (length digits) && all_ascii_digits digits) (nat_lt (digits_value 10 digits) limit) found.0 in
    let first = and_parts (nat_le 1 (length digits)) (all_ascii_digits digits) both.0 in
    let some : 1 ≤ length digits = grind (arith, nat_tests) in
    let few : digits_value 10 digits < limit = grind (arith, nat_tests) in
    record { some = some; each = sym (digits-same digits) ∙ first.1; value = found.1; fits = omega (arith, few, found.1) }

pub number-spelt : (limit : ℕ) (digits rest : List ℕ) (n : ℕ) → Spells limit digits n → EndsRun is_ascii_digit rest → number_at limit (digits ++ rest) ≡ Some (n, rest)
unfolding number_at
number-spelt limit digits rest n s ends =
    ap (λ w. option_map (λ k. (k, drop (prefix_len is_ascii_digit (digits ++ rest)) (digits ++ rest))) (numeral limit w)) (take-run is_ascii_digit digits rest s.each ends) ∙ ap (option_map (λ k. (k, drop (prefix_len is_ascii_digit (digits ++ rest)) (digits ++ rest)))) (numeral-spelt limit digits n s) ∙ ap (λ xs. Some (n, xs)) (drop-run is_ascii_digit digits rest s.each ends)

-- the digits of a number at the front
pub record IsNumberAt (limit : ℕ) (bytes : List ℕ) (n : ℕ) (rest : List ℕ) : Type 0 where
  pub digits : List ℕ
  pub is : bytes ≡ digits ++ rest
  pub spelt : Spells limit digits n

pub number-is : (limit : ℕ) (bytes : List ℕ) (found : ℕ × List ℕ) → number_at limit bytes ≡ Some found → IsNumberAt limit bytes found.0 found.1
unfolding number_at
number-is limit bytes found e =
    let run = run-is is_ascii_digit bytes in
    let from = map-some (λ k. (k, drop (prefix_len is_ascii_digit bytes) bytes)) (numeral limit (take (prefix_len is_ascii_digit bytes) bytes)) found e in
    record {
      digits = run.0;
      is = run.1 ∙ ap (λ xs. run.0 ++ xs) (ap (λ p. p.1) from.2);
      spelt = subst (λ k. Spells limit run.0 k) (ap (λ p. p.0) from.2) (subst (λ w. Spells limit w from.0) (sym run.2) (numeral-is limit (take (prefix_len is_ascii_digit bytes) bytes) from.0 from.1));
    }

pub blanks-dropped : (front rest : List ℕ) → list_all is_blank front ≡ true → EndsRun is_blank rest → without_blanks (front ++ rest) ≡ rest
unfolding without_blanks
blanks-dropped front rest all ends = drop-run is_blank front rest all ends

pub blanks-are : (bytes : List ℕ) → (front : List ℕ) × (bytes ≡ front ++ without_blanks bytes) × (list_all is_blank front ≡ true)
unfolding without_blanks
blanks-are bytes = let run = run-is is_blank bytes in (run.0, run.1, run.3)

pub blanks-passed : (blanks rest : List ℕ) → AreBlanks blanks → EndsRun is_blank rest → after_blanks (blanks ++ rest) ≡ Some rest
unfolding after_blanks
blanks-passed [] rest are ends = absurd (omega (arith, are.some))
blanks-passed (b ∷ bs) rest are ends =
    let parts = and_parts (is_blank b) (list_all is_blank bs) are.each in
    let blank : b ≡ 32 = eqb-true b 32 parts.0 in
    ap (λ x. option_map without_blanks (after (x ∷ (bs ++ rest)) (codes " "))) blank ∙ ap (option_map without_blanks) (after-text (codes " ") (bs ++ rest)) ∙ ap Some (blanks-dropped bs rest parts.1 ends)

-- blanks, and what follows them
pub record IsAfterBlanks (bytes rest : List ℕ) : Type 0 where
  pub blanks : List ℕ
  pub is : bytes ≡ blanks ++ rest
  pub are : AreBlanks blanks

pub blanks-is : (bytes rest : List ℕ) → after_blanks bytes ≡ Some rest → IsAfterBlanks bytes rest
unfolding after_blanks
blanks-is bytes rest e =
    let from = map-some without_blanks (after bytes (codes " ")) rest e in
    let more = blanks-are from.0 in
    record {
      blanks = 32 ∷ more.0;
      is = after-is bytes (codes " ") from.0 from.1 ∙ ap (λ xs. 32 ∷ xs) (more.1 ∙ ap (λ xs. more.0 ++ xs) from.2);
      are = record { some = omega arith; each = more.2 };
    }

-- ---- what is no blank, and what is no digit

pub blanks-no_digit : (blanks rest : List ℕ) → AreBlanks blanks → EndsRun is_ascii_digit (blanks ++ rest)
blanks-no_digit [] rest are = absurd (omega (arith, are.some))
blanks-no_digit (b ∷ bs) rest are =
    ap is_ascii_digit (eqb-true b 32 (and_parts (is_blank b) (list_all is_blank bs) are.each).0)

digit-no_blank : (d : ℕ) → is_ascii_digit d ≡ true → is_blank d ≡ false
digit-no_blank d e = grind (arith, nat_tests)

pub digits-no_blank : (digits rest : List ℕ) → 1 ≤ length digits → list_all is_ascii_digit digits ≡ true → EndsRun is_blank (digits ++ rest)
digits-no_blank [] rest some each = absurd (omega (arith, some))
digits-no_blank (d ∷ ds) rest some each =
    digit-no_blank d (and_parts (is_ascii_digit d) (list_all is_ascii_digit ds) each).0

module _ (p : ℕ → Bool) where
  pub all-append : (xs ys : List ℕ) → list_all p xs ≡ true → list_all p ys ≡ true → list_all p (xs ++ ys) ≡ true
  all-append [] ys x y = y
  all-append (a ∷ xs) ys x y =
      let parts = and_parts (p a) (list_all p xs) x in
      and_from (p a) (list_all p (xs ++ ys)) parts.0 (all-append xs ys parts.1 y)

  pub all-take : (n : ℕ) (xs : List ℕ) → list_all p xs ≡ true → list_all p (take n xs) ≡ true
  all-take zero xs all = refl
  all-take (suc n) [] all = refl
  all-take (suc n) (x ∷ xs) all =
      let parts = and_parts (p x) (list_all p xs) all in
      and_from (p x) (list_all p (take n xs)) parts.0 (all-take n xs parts.1)

digit-dark : (d : ℕ) → is_ascii_digit d ≡ true → is_of Dark d ≡ true
digit-dark d e = ap not (digit-no_blank d e)

pub digits-dark : (ds : List ℕ) → list_all is_ascii_digit ds ≡ true → list_all (is_of Dark) ds ≡ true
digits-dark [] all = refl
digits-dark (d ∷ ds) all =
    let parts = and_parts (is_ascii_digit d) (list_all is_ascii_digit ds) all in
    and_from (is_of Dark d) (list_all (is_of Dark) ds) (digit-dark d parts.0) (digits-dark ds parts.1)

pub blanks-no_dark : (blanks rest : List ℕ) → AreBlanks blanks → EndsRun (is_of Dark) (blanks ++ rest)
blanks-no_dark [] rest are = absurd (omega (arith, are.some))
blanks-no_dark (b ∷ bs) rest are =
    ap not (and_parts (is_blank b) (list_all is_blank bs) are.each).0

dark-no_blank : (b : ℕ) → is_of Dark b ≡ true → is_blank b ≡ false
dark-no_blank b e = grind (arith, nat_tests)

pub darks-no_blank : (xs rest : List ℕ) → 1 ≤ length xs → list_all (is_of Dark) xs ≡ true → EndsRun is_blank (xs ++ rest)
darks-no_blank [] rest some all = absurd (omega (arith, some))
darks-no_blank (x ∷ xs) rest some all =
    dark-no_blank x (and_parts (is_of Dark x) (list_all (is_of Dark) xs) all).0
