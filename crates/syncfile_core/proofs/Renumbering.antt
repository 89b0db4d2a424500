-- Renumbering keeps the order of files.
use Rattle.std.proofs.Common.{◌≡◌, ℕ, ◌+◌, ◌<◌, ◌≤◌, false, nat_eq, zero, suc, refl, sym, ap, ◌∙◌, subst, List, [], ◌∷◌, ◌++◌, length, map, inl, inr, arith, take, drop, set, get_or, if◌then◌else◌}
use Rattle.std.specs.List.{IsDistinct, AllByRecursion, list_any}
use Rattle.std.specs.List.Sorted.{IsPermutation, IsNonDecreasingBy}
use Rattle.std.specs.Map.{keys_of}
use Rattle.std.specs.Cmp.Lexicographic.{nat_list_eq_equiv}
use Rattle.std.proofs.lemmas.Bool.{cases_Bool}
use Rattle.std.proofs.lemmas.List.{length-map, take_more, length-append, length-drop, length-take-le, take_at}
use Rattle.std.proofs.lemmas.List.Elements.{All-from_recursion}
use Rattle.std.proofs.lemmas.List.Sorted.{IsPermutation-refl, IsPermutation-map, length_permutation}
use Rattle.std.proofs.lemmas.Map.Views.{exact_unsigned_eq}
use Rattle.indexmap.specs.IndexSet.{insert_key}
use Rattle.point_core.specs.Named.{same_name, things_in}
use Rattle.syncfile_core.specs.declared.file_slots.NumberedFile.{NumberedFile}
use Rattle.syncfile_core.specs.SyncFile.{File}
use Rattle.syncfile_core.specs.Numbered.{by_number}
use Rattle.syncfile_core.specs.Files.{names_of, number_of, files_made, files_in, entry_of, entries_of, entries_in, AreKept, AreInPlace}
use Rattle.syncfile_core.specs.Renumbered.{with_number, numbered_from, IsNumberedAnew}
use Rattle.syncfile_core.proofs.InOrder.{Rises, by_number-is, Rises-from}
use Rattle.syncfile_core.proofs.Kept.{AreKept-permuted, names_of-keys}
use Rattle.syncfile_core.proofs.Placed.{length-entries_in}

abbrev Entries : Type 0
Entries = List (List ℕ × NumberedFile)

abbrev file_in : NumberedFile → File
file_in m = m.file.value

abbrev IsUnderItsName : List ℕ × NumberedFile → Type 0
IsUnderItsName e = e.0 ≡ e.1.file.value.name

-- one file after another

-- the first k are numbered from n on, the others keep their numbers
abbrev pub numbered_first : ℕ → ℕ → List NumberedFile → List NumberedFile
numbered_first n zero ms = ms
numbered_first n (suc k) [] = []
numbered_first n (suc k) (m ∷ ms) = with_number n m ∷ numbered_first (suc n) k ms

pub length-numbered_first : (n k : ℕ) (ms : List NumberedFile) → length (numbered_first n k ms) ≡ length ms
length-numbered_first n zero ms = refl
length-numbered_first n (suc k) [] = refl
length-numbered_first n (suc k) (m ∷ ms) = ap suc (length-numbered_first (suc n) k ms)

numbered_first-suc : (n k : ℕ) (ms : List NumberedFile) (m : NumberedFile) (number : ℕ) → number ≡ n + k → k < length ms → m ≡ get_or (numbered_first n k ms) k m
    → set (numbered_first n k ms) k (with_number number m) ≡ numbered_first n (suc k) ms
numbered_first-suc n zero [] m number is low at = absurd (omega (arith, low))
numbered_first-suc n zero (x ∷ xs) m number is low at =
    let same : number ≡ n = omega (arith, is) in
    ap (λ (y : NumberedFile). with_number number y ∷ xs) at ∙ ap (λ (i : ℕ). with_number i x ∷ xs) same
numbered_first-suc n (suc k) [] m number is low at = absurd (omega (arith, low))
numbered_first-suc n (suc k) (x ∷ xs) m number is low at =
    ap (λ ys. with_number n x ∷ ys) (numbered_first-suc (suc n) k xs m number (omega (arith, is)) (omega (arith, low)) at)

pub numbered_first-more : (k : ℕ) (ms : List NumberedFile) (m : NumberedFile) → k < length ms → m ≡ get_or (numbered_first 0 k ms) k m
    → set (numbered_first 0 k ms) k (with_number k m) ≡ numbered_first 0 (k + 1) ms
numbered_first-more k ms m low at =
    let next : suc k ≡ k + 1 = omega arith in
    numbered_first-suc 0 k ms m k (omega arith) low at ∙ ap (λ i. numbered_first 0 i ms) next

pub numbered_first-all : (n : ℕ) (ms : List NumberedFile) → numbered_first n (length ms) ms ≡ numbered_from n ms
numbered_first-all n [] = refl
numbered_first-all n (m ∷ ms) = ap (λ ns. with_number n m ∷ ns) (numbered_first-all (suc n) ms)

-- renumbering leaves everything but the numbers

pub length-numbered_from : (n : ℕ) (ms : List NumberedFile) → length (numbered_from n ms) ≡ length ms
length-numbered_from n [] = refl
length-numbered_from n (m ∷ ms) = ap suc (length-numbered_from (suc n) ms)

keys-numbered_from : (n : ℕ) (ms : List NumberedFile) → keys_of (entries_of (numbered_from n ms)) ≡ keys_of (entries_of ms)
keys-numbered_from n [] = refl
keys-numbered_from n (m ∷ ms) = ap (λ ks. m.file.value.name ∷ ks) (keys-numbered_from (suc n) ms)

files-numbered_from : (n : ℕ) (ms : List NumberedFile) → things_in file_in (entries_of (numbered_from n ms)) ≡ things_in file_in (entries_of ms)
files-numbered_from n [] = refl
files-numbered_from n (m ∷ ms) = ap (λ fs. m.file.value ∷ fs) (files-numbered_from (suc n) ms)

keyed-entries_of : (ms : List NumberedFile) → AllByRecursion IsUnderItsName (entries_of ms)
keyed-entries_of [] = tt
keyed-entries_of (m ∷ ms) = (refl, keyed-entries_of ms)

-- the numbers themselves

below-numbered_from : (n last : ℕ) (ms : List NumberedFile) → last ≡ n + length ms → AllByRecursion (λ e. number_of e < last) (entries_of (numbered_from n ms))
below-numbered_from n last [] is = tt
below-numbered_from n last (m ∷ ms) is = (omega (arith, is), below-numbered_from (suc n) last ms (omega (arith, is)))

above-numbered_from : (k n : ℕ) (ms : List NumberedFile) → k < n → AllByRecursion (λ e. k < number_of e) (entries_of (numbered_from n ms))
above-numbered_from k n [] low = tt
above-numbered_from k n (m ∷ ms) low = (low, above-numbered_from k (suc n) ms (omega (arith, low)))

Rises-numbered_from : (n : ℕ) (ms : List NumberedFile) → Rises number_of (entries_of (numbered_from n ms))
Rises-numbered_from n [] = tt
Rises-numbered_from n (m ∷ ms) = (above-numbered_from n (suc n) ms (omega arith), Rises-numbered_from (suc n) ms)

unequal : (m n : ℕ) → m < n → nat_eq m n ≡ false
unequal m n low = elim (cases_Bool (nat_eq m n)) [
  | inl is ↦ let same = exact_unsigned_eq m n is in absurd (omega (arith, low, same))
  | inr apart ↦ apart
]

apart-above : (n : ℕ) (es : Entries) → AllByRecursion (λ e. n < number_of e) es → AllByRecursion (λ m. nat_eq n m ≡ false) (map number_of es)
apart-above n [] all = tt
apart-above n (e ∷ es) all = (unequal n (number_of e) all.0, apart-above n es all.1)

distinct-rising : (es : Entries) → Rises number_of es → IsDistinct nat_eq (map number_of es)
unfolding IsDistinct
distinct-rising [] rises = tt
distinct-rising (e ∷ es) rises = (apart-above (number_of e) es rises.0, distinct-rising es rises.1)

distinct-numbered_from : (ms : List NumberedFile) → IsDistinct nat_eq (map number_of (entries_of (numbered_from 0 ms)))
distinct-numbered_from ms = distinct-rising (entries_of (numbered_from 0 ms)) (Rises-numbered_from 0 ms)

rising-entries_of : (ms : List NumberedFile) → IsNonDecreasingBy (λ (m : NumberedFile). m.number) ms → IsNonDecreasingBy number_of (entries_of ms)
rising-entries_of ms rising = λ i j d low within.
    let short : j < length ms = omega (arith, within, length-map ms entry_of) in
    let first : i < length ms = omega (arith, low, short) in
    let up : (get_or ms i d.1).number ≤ (get_or ms j d.1).number = rising i j d.1 low short in
    let one : number_of (get_or (entries_of ms) i d) ≡ (get_or ms i d.1).number = number-at ms i d first in
    let other : number_of (get_or (entries_of ms) j d) ≡ (get_or ms j d.1).number = number-at ms j d short in
    omega (arith, up, one, other)
  where
    number-at : (ms : List NumberedFile) (k : ℕ) (d : List ℕ × NumberedFile) → k < length ms → number_of (get_or (entries_of ms) k d) ≡ (get_or ms k d.1).number
    number-at [] k d low = absurd (omega (arith, low))
    number-at (m ∷ ms) zero d low = refl
    number-at (m ∷ ms) (suc k) d low = number-at ms k d (omega (arith, low))

-- files that are sorted in order of making and renumbered
module _ (names : List (List ℕ)) (made new : List NumberedFile) (next : ℕ) (placed : AreInPlace names made next) (anew : IsNumberedAnew (take (length names) made) (take (length names) new)) where
  abbrev old : Entries
  old = entries_in names made

  abbrev turned : Entries
  turned = entries_of anew.ordered

  moved : IsPermutation old turned
  moved = IsPermutation-map entry_of (take (length names) made) anew.ordered anew.same

  rises : Rises number_of turned
  rises = Rises-from number_of turned (rising-entries_of anew.ordered anew.rising) (AreKept-permuted old turned next moved placed.kept).numbered

  order : by_number number_of old ≡ turned
  order = by_number-is number_of old turned placed.kept.numbered moved rises

  count : length anew.ordered ≡ length names
  count = sym (length-map anew.ordered entry_of) ∙ length_permutation old turned moved ∙ length-entries_in names made next placed

  -- their names, in that order
  module _ (ordered : List (List ℕ)) (are : ordered ≡ names_of (files_made old)) where
    keys : ordered ≡ keys_of turned
    keys = are ∙ sym (names_of-keys old next placed.kept) ∙ ap keys_of order

    length-ordered : length ordered ≡ length names
    length-ordered = ap length keys ∙ length-map turned (λ (e : List ℕ × NumberedFile). e.0) ∙ length-map anew.ordered entry_of ∙ count

    entries_in-ordered : entries_in ordered new ≡ entries_of (numbered_from 0 anew.ordered)
    entries_in-ordered = ap (λ n. entries_of (take n new)) length-ordered ∙ ap entries_of anew.numbered

    pub AreInPlace-ordered : length new ≡ length made → AreInPlace ordered new (length names)
    AreInPlace-ordered same = record {
      within = omega (arith, same, length-ordered, placed.within);
      named = keys ∙ sym (keys-numbered_from 0 anew.ordered) ∙ ap keys_of (sym entries_in-ordered);
      kept = subst (λ es. AreKept es (length names)) (sym entries_in-ordered) (record {
        keyed = All-from_recursion IsUnderItsName (entries_of (numbered_from 0 anew.ordered)) (keyed-entries_of (numbered_from 0 anew.ordered));
        distinct = subst (IsDistinct same_name) (sym (keys-numbered_from 0 anew.ordered)) (AreKept-permuted old turned next moved placed.kept).distinct;
        numbered = distinct-numbered_from anew.ordered;
        below = All-from_recursion (λ e. number_of e < length names) (entries_of (numbered_from 0 anew.ordered)) (below-numbered_from 0 (length names) anew.ordered (omega (arith, count)));
      });
    }

    pub files_in-ordered : files_in ordered new ≡ files_in names made
    files_in-ordered =
        let after = by_number-is number_of (entries_of (numbered_from 0 anew.ordered)) (entries_of (numbered_from 0 anew.ordered)) (distinct-numbered_from anew.ordered) (IsPermutation-refl (entries_of (numbered_from 0 anew.ordered))) (Rises-numbered_from 0 anew.ordered) in
        ap files_made entries_in-ordered ∙ ap (things_in file_in) after ∙ files-numbered_from 0 anew.ordered ∙ ap (things_in file_in) (sym order)

length-anew : (old new : List NumberedFile) → IsNumberedAnew old new → length new ≡ length old
length-anew old new anew = ap length anew.numbered ∙ length-numbered_from 0 anew.ordered ∙ length_permutation old anew.ordered anew.same

-- the first files renumbered, with the others after them
module _ (names ordered : List (List ℕ)) (made first : List NumberedFile) (next count : ℕ) (len : count ≡ length names) (placed : AreInPlace names made next) (anew : IsNumberedAnew (take count made) first)
    (are : ordered ≡ names_of (files_made (entries_of (take count made)))) where
  abbrev after : List NumberedFile
  after = first ++ drop count made

  within : count ≤ length made
  within = omega (arith, len, placed.within)

  short : length first ≡ count
  short = length-anew (take count made) first anew ∙ length-take-le count made within

  front : take count after ≡ first
  front = take_at first (drop count made) count short

  pub length-after : length after ≡ length made
  length-after = omega (arith, length-append first (drop count made), short, length-drop count made, within)

  anew-front : IsNumberedAnew (take (length names) made) (take (length names) after)
  anew-front = subst (λ n. IsNumberedAnew (take n made) (take n after)) len (subst (IsNumberedAnew (take count made)) (sym front) anew)

  are-names : ordered ≡ names_of (files_made (entries_in names made))
  are-names = are ∙ ap (λ n. names_of (files_made (entries_of (take n made)))) len

  pub AreInPlace-renumbered : AreInPlace ordered after count
  AreInPlace-renumbered = subst (AreInPlace ordered after) (sym len) (AreInPlace-ordered names made after next placed anew-front ordered are-names length-after)

  pub files_in-renumbered : files_in ordered after ≡ files_in names made
  files_in-renumbered = files_in-ordered names made after next placed anew-front ordered are-names

  pub length-renumbered : length ordered ≡ length names
  length-renumbered = length-ordered names made after next placed anew-front ordered are-names

-- a set with the names in another order has them sorted

apart-before : (ks : List (List ℕ)) (k : List ℕ) (rest : List (List ℕ)) → IsDistinct same_name (ks ++ k ∷ rest) → list_any (same_name k) ks ≡ false
unfolding IsDistinct
apart-before [] k rest distinct = refl
apart-before (j ∷ ks) k rest distinct =
    let other = all-last (λ y. same_name j y ≡ false) ks k rest distinct.0 in
    rw (nat_list_eq_equiv.symm k j ∙ other) (apart-before ks k rest distinct.1)
  where
    all-last : (P : List ℕ → Type 0) (xs : List (List ℕ)) (x : List ℕ) (ys : List (List ℕ)) → AllByRecursion P (xs ++ x ∷ ys) → P x
    all-last P [] x ys all = all.0
    all-last P (y ∷ xs) x ys all = all-last P xs x ys all.1

pub insert_key-more : (names : List (List ℕ)) (i : ℕ) (name : List ℕ) → IsDistinct same_name names → i < length names → name ≡ get_or names i name → insert_key same_name (take i names) name ≡ take (i + 1) names
insert_key-more names i name distinct low at =
    let more = take_more names i name low ∙ ap (λ k. take i names ++ k ∷ []) (sym at) in
    let parts : take i names ++ name ∷ drop (i + 1) names ≡ names = ap (λ k. take i names ++ k ∷ drop (i + 1) names) at ∙ sym (split-at names i name low) in
    let apart = apart-before (take i names) name (drop (i + 1) names) (subst (IsDistinct same_name) (sym parts) distinct) in
    ap (λ b. if b then take i names else take i names ++ name ∷ []) apart ∙ sym more
  where
    split-at : (xs : List (List ℕ)) (k : ℕ) (d : List ℕ) → k < length xs → xs ≡ take k xs ++ get_or xs k d ∷ drop (k + 1) xs
    split-at [] k d low = absurd (omega (arith, low))
    split-at (x ∷ xs) zero d low = refl
    split-at (x ∷ xs) (suc k) d low =
        let next : suc k + 1 ≡ suc (k + 1) = omega arith in
        ap (λ ys. x ∷ ys) (split-at xs k d (omega (arith, low))) ∙ ap (λ n. x ∷ take k xs ++ get_or xs k d ∷ drop n (x ∷ xs)) (sym next)
