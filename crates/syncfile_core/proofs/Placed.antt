-- Files in slots; the first ones are open, as many as there are names.
use Rattle.std.proofs.Common.{◌≡◌, ℕ, ◌+◌, ◌-◌, ◌<◌, ◌≤◌, ◌||◌, Bool, true, not, cond, if◌then◌else◌, zero, suc, refl, sym, ap, ◌∙◌, subst, List, [], ◌∷◌, ◌++◌, length, map, take, set, get_or, slice_get, swap, swap_remove, position, option_map, Option, None, Some, false, arith, is_some}
use Rattle.std.specs.List.{list_any}
use Rattle.std.specs.List.Sorted.{IsPermutation, IsNonDecreasingBy}
use Rattle.std.specs.Prelude.{IfSome}
use Rattle.std.specs.Option.{option_map_or}
use Rattle.std.proofs.lemmas.List.Quantifiers.{position-Some}
use Rattle.std.specs.Map.{keys_of, values_of, lookup}
use Rattle.std.proofs.lemmas.Bool.{false≢true}
use Rattle.std.proofs.lemmas.List.{take_more_set, take-set, take-take, get_or-take, length-take-le, length-map, length-append, length-set, map-append, get_or_default}
use Rattle.std.proofs.lemmas.Option.{none-some, slice_get-get_or}
use Rattle.indexmap.specs.IndexMap.{swap_remove_by, swap_remove_entry}
use Rattle.indexmap.specs.IndexSet.{insert_key}
use Rattle.indexmap.proofs.MapLemmas.{Found-position, Missing-position, some_index, swap_remove_entry-found, swap_remove_entry-missing, swap_remove-default}
use Rattle.indexmap.proofs.SetLemmas.{map-swap_remove, keys_swap_remove_entry}
use Rattle.point_core.specs.Named.{same_name}
use Rattle.syncfile_core.specs.declared.file_slots.NumberedFile.{NumberedFile}
use Rattle.syncfile_core.specs.declared.file_slots.NumberedName.{NumberedName}
use Rattle.syncfile_core.specs.SyncFile.{File, file_at}
use Rattle.syncfile_core.specs.Files.{has_file, without_file, files_made, files_in, entry_of, entries_of, entries_in, numbered_name_of, names_of, AreKept, AreInPlace}
use Rattle.syncfile_core.proofs.Kept.{AreKept-none, AreKept-append, AreKept-swap_remove_entry, files_made-append, files_made-swap_remove_entry, file_at-made, has_file-made, numbered_name_in, names_of-places}

abbrev file_in : NumberedFile → File
file_in m = m.file.value

values-entries_of : (ms : List NumberedFile) → values_of (entries_of ms) ≡ ms
values-entries_of [] = refl
values-entries_of (m ∷ ms) = ap (λ ns. m ∷ ns) (values-entries_of ms)

pub AreInPlace-none : (names : List (List ℕ)) (made : List NumberedFile) → names ≡ [] → AreInPlace names made 0
AreInPlace-none names made is = subst (λ none. AreInPlace none made 0) (sym is) (record { within = omega arith; named = refl; kept = AreKept-none [] 0 refl })

-- other slots after the open files
module _ (names : List (List ℕ)) (made more : List NumberedFile) (count : ℕ) (len : count ≡ length names) (same : take count more ≡ take count made) where
  pub entries_in-same : entries_in names more ≡ entries_in names made
  entries_in-same = subst (λ n. entries_of (take n more) ≡ entries_of (take n made)) len (ap entries_of same)

  pub AreInPlace-same : (next : ℕ) → AreInPlace names made next → count ≤ length more → AreInPlace names more next
  AreInPlace-same next placed within = record {
    within = omega (arith, within, len);
    named = placed.named ∙ ap keys_of (sym entries_in-same);
    kept = subst (λ es. AreKept es next) (sym entries_in-same) placed.kept;
  }

  pub files_in-same : files_in names more ≡ files_in names made
  files_in-same = ap files_made entries_in-same

any-lookup : {X : Type 0} (t : List ℕ → Bool) (es : List (List ℕ × X)) → list_any t (keys_of es) ≡ is_some (lookup t es)
any-lookup t [] = refl
any-lookup t (e ∷ es) = by (t e.0) (any-lookup t es)
  where
    by : (b : Bool) → list_any t (keys_of es) ≡ is_some (lookup t es) → (b || list_any t (keys_of es)) ≡ is_some (cond b (Some e.1) (lookup t es))
    by true rest = refl
    by false rest = rest

absent-from : (b : Bool) → true ≡ not b → b ≡ false
absent-from true h = absurd (false≢true (sym h))
absent-from false h = refl

module _ (names : List (List ℕ)) (made : List NumberedFile) (next : ℕ) (placed : AreInPlace names made next) where
  abbrev entries : List (List ℕ × NumberedFile)
  entries = entries_in names made

  pub length-entries_in : length entries ≡ length names
  length-entries_in = length-map (take (length names) made) entry_of ∙ length-take-le (length names) made placed.within

  -- a name that is found has its file at the same index
  module _ (name : List ℕ) where
    there : (at : Option ℕ) → position (same_name name) names ≡ at → position (same_name name) (keys_of entries) ≡ at
    there at is = ap (position (same_name name)) (sym placed.named) ∙ is

    module _ (i : ℕ) (is : position (same_name name) names ≡ Some i) where
      pub index-within : i < length names
      index-within = let found = Found-position (same_name name) entries i (there (Some i) is) in omega (arith, found.within, length-entries_in)

      pub file_at-found : (m : NumberedFile) → m ≡ get_or made i m → file_at (files_in names made) name ≡ Some m.file.value
      file_at-found m at =
          let found = Found-position (same_name name) entries i (there (Some i) is) in
          let first = take (length names) made in
          let low : i < length first = omega (arith, index-within, length-take-le (length names) made placed.within) in
          file_at-made entries next placed.kept name
          ∙ ap (option_map file_in) (found.value ∙ ap (λ ms. slice_get ms i) (values-entries_of first) ∙ slice_get-get_or first i m low ∙ ap Some (get_or-take (length names) made i m index-within ∙ sym at))

    pub file_at-missing : position (same_name name) names ≡ None → file_at (files_in names made) name ≡ None
    file_at-missing is =
        let missing = Missing-position (same_name name) entries (there None is) in
        file_at-made entries next placed.kept name ∙ ap (option_map file_in) missing.value

  pub has_file-position : (name : List ℕ) → has_file (files_in names made) name ≡ is_some (position (same_name name) names)
  has_file-position name = has_file-made entries next placed.kept name ∙ sym (some_index (same_name name) entries) ∙ ap (λ ks. is_some (position (same_name name) ks)) (sym placed.named)

  has_file-named : (name : List ℕ) → has_file (files_in names made) name ≡ list_any (same_name name) names
  has_file-named name = has_file-made entries next placed.kept name ∙ sym (any-lookup (same_name name) entries) ∙ ap (list_any (same_name name)) (sym placed.named)

-- a new file goes last
module _ (names : List (List ℕ)) (made : List NumberedFile) (last : NumberedFile) (placed : AreInPlace names made last.number) (new : has_file (files_in names made) last.file.value.name ≡ false)
    (room : length names < length made) where
  abbrev f : File
  f = last.file.value

  abbrev es : List (List ℕ × NumberedFile)
  es = entries_in names made

  entries_in-put : entries_in (names ++ f.name ∷ []) (set made (length names) last) ≡ es ++ (f.name, last) ∷ []
  entries_in-put =
      ap (λ n. entries_of (take n (set made (length names) last))) (length-append names (f.name ∷ []))
      ∙ ap entries_of (take_more_set made (length names) last room)
      ∙ map-append entry_of (take (length names) made) (last ∷ [])

  AreInPlace-put : AreInPlace (names ++ f.name ∷ []) (set made (length names) last) (last.number + 1)
  AreInPlace-put = record {
    within = omega (arith, room, length-append names (f.name ∷ []), length-set made (length names) last);
    named =
        ap (λ ns. ns ++ f.name ∷ []) placed.named
        ∙ sym (map-append (λ (e : List ℕ × NumberedFile). e.0) es ((f.name, last) ∷ []))
        ∙ ap keys_of (sym entries_in-put);
    kept = subst (λ ds. AreKept ds (last.number + 1)) (sym entries_in-put) (AreKept-append es last placed.kept new);
  }

  files_in-put : files_in (names ++ f.name ∷ []) (set made (length names) last) ≡ files_in names made ++ f ∷ []
  files_in-put = ap files_made entries_in-put ∙ files_made-append es last placed.kept new

-- a new file, by the result of inserting its name into the set
module _ (names keys : List (List ℕ)) (made : List NumberedFile) (m : NumberedFile) (count : ℕ) (placed : AreInPlace names made m.number) (name : List ℕ) (len : count ≡ length names) (room : count < length made)
    (added : true ≡ not (list_any (same_name name) names)) (put : keys ≡ insert_key same_name names name) (is : name ≡ m.file.value.name) where
  none : list_any (same_name name) names ≡ false
  none = absent-from (list_any (same_name name) names) added

  pub new-inserted : has_file (files_in names made) name ≡ false
  new-inserted = has_file-named names made m.number placed name ∙ none

  new : has_file (files_in names made) m.file.value.name ≡ false
  new = ap (has_file (files_in names made)) (sym is) ∙ new-inserted

  more : keys ≡ names ++ m.file.value.name ∷ []
  more = put ∙ ap (λ b. if b then names else names ++ name ∷ []) none ∙ ap (λ k. names ++ k ∷ []) is

  after : set made count m ≡ set made (length names) m
  after = ap (λ n. set made n m) len

  low : length names < length made
  low = omega (arith, len, room)

  pub AreInPlace-inserted : AreInPlace keys (set made count m) (m.number + 1)
  AreInPlace-inserted =
      subst (λ ks. AreInPlace ks (set made count m) (m.number + 1)) (sym more)
      (subst (λ ms. AreInPlace (names ++ m.file.value.name ∷ []) ms (m.number + 1)) (sym after) (AreInPlace-put names made m placed new low))

  pub files_in-inserted : files_in keys (set made count m) ≡ files_in names made ++ m.file.value ∷ []
  files_in-inserted = ap (λ ks. files_in ks (set made count m)) more ∙ ap (files_in (names ++ m.file.value.name ∷ [])) after ∙ files_in-put names made m placed new low

length-swap : {X : Type 0} (xs : List X) (i j : ℕ) → length (swap xs i j) ≡ length xs
length-swap [] i j = refl
length-swap (y ∷ ys) i j = length-set (set (y ∷ ys) i (get_or (y ∷ ys) j y)) j (get_or (y ∷ ys) i y) ∙ length-set (y ∷ ys) i (get_or (y ∷ ys) j y)

take-set_inside : {X : Type 0} (n : ℕ) (xs : List X) (i : ℕ) (x : X) → take n (set xs i x) ≡ set (take n xs) i x
take-set_inside zero xs i x = refl
take-set_inside (suc n) [] i x = refl
take-set_inside (suc n) (y ∷ ys) zero x = refl
take-set_inside (suc n) (y ∷ ys) (suc i) x = ap (λ zs. y ∷ zs) (take-set_inside n ys i x)

-- an element of the first n is replaced by the last of them
take-swap : {X : Type 0} (xs : List X) (i n last : ℕ) (d : X) → last + 1 ≡ n → n ≤ length xs → take last (swap xs i last) ≡ swap_remove (take n xs) i d
take-swap [] i n last d more within = absurd (omega (arith, more, within))
take-swap (y ∷ ys) i n last d more within =
    let xs = y ∷ ys in
    let short : length (take n xs) - 1 ≡ last = omega (arith, more, length-take-le n xs within) in
    let low : last < length (take n xs) = omega (arith, more, length-take-le n xs within) in
    take-set (set xs i (get_or xs last y)) last (get_or xs i y)
    ∙ sym (take-take last n (set xs i (get_or xs last y)) (omega (arith, more)))
    ∙ ap (take last) (take-set_inside n xs i (get_or xs last y))
    ∙ ap (λ z. take last (set (take n xs) i z)) (sym (get_or-take n xs last y (omega (arith, more))) ∙ get_or_default (take n xs) last y d low)
    ∙ ap (λ k. take k (set (take n xs) i (get_or (take n xs) k d))) (sym short)

-- the names once the one at an index is removed, whose place the last one takes
pub swap_remove_by-found : (names : List (List ℕ)) (name : List ℕ) (i : ℕ) (d : List ℕ) → position (same_name name) names ≡ Some i → swap_remove_by (same_name name) names ≡ swap_remove names i d
swap_remove_by-found [] name i d is = absurd (none-some i is)
swap_remove_by-found (x ∷ xs) name i d is =
    ap (λ o. option_map_or (λ j. swap_remove (x ∷ xs) j x) o (x ∷ xs)) is ∙ swap_remove-default (x ∷ xs) i x d (omega arith)

-- the names that are left, by what the removal of an index says of them
pub swap_remove_by-removed : (names left : List (List ℕ)) (name : List ℕ) (i : ℕ) (gone : Option (List ℕ)) → position (same_name name) names ≡ Some i → gone ≡ slice_get names i → IfSome gone (λ k. left ≡ swap_remove names i k) → left ≡ swap_remove_by (same_name name) names
swap_remove_by-removed names left name i (Some k) is at removed = removed ∙ sym (swap_remove_by-found names name i k is)
swap_remove_by-removed names left name i None is at removed =
    absurd (none-some (get_or names i name) (at ∙ slice_get-get_or names i name (position-Some (same_name name) names i name is).0))

pub one_less-removed : (names left : List (List ℕ)) (name : List ℕ) (i : ℕ) (gone : Option (List ℕ)) → position (same_name name) names ≡ Some i → gone ≡ slice_get names i → length left + (if is_some gone then 1 else 0) ≡ length names → length left + 1 ≡ length names
one_less-removed names left name i (Some k) is at less = less
one_less-removed names left name i None is at less =
    absurd (none-some (get_or names i name) (at ∙ slice_get-get_or names i name (position-Some (same_name name) names i name is).0))

-- a file is removed, and the last takes its slot
module _ (names left : List (List ℕ)) (made : List NumberedFile) (next : ℕ) (placed : AreInPlace names made next) (name : List ℕ) (i last : ℕ) (is : position (same_name name) names ≡ Some i)
    (out : left ≡ swap_remove_by (same_name name) names) (one : length left ≡ last) (more : last + 1 ≡ length names) where
  abbrev before : List (List ℕ × NumberedFile)
  before = entries_in names made

  entries_in-swap : entries_in left (swap made i last) ≡ swap_remove_entry (same_name name) before
  entries_in-swap = by (take (length names) made) refl
    where
      by : (first : List NumberedFile) → take (length names) made ≡ first → entries_in left (swap made i last) ≡ swap_remove_entry (same_name name) before
      by [] first = absurd (let short = ap length first in omega (arith, more, short, length-take-le (length names) made placed.within))
      by (d ∷ ds) first =
          ap (λ n. entries_of (take n (swap made i last))) one
          ∙ ap entries_of (take-swap made i (length names) last d more placed.within)
          ∙ map-swap_remove entry_of (take (length names) made) i d (omega (arith, more, length-take-le (length names) made placed.within))
          ∙ sym (swap_remove_entry-found (same_name name) before i (entry_of d) (ap (position (same_name name)) (sym placed.named) ∙ is))

  pub AreInPlace-swap : AreInPlace left (swap made i last) next
  AreInPlace-swap = record {
    within = omega (arith, one, more, placed.within, length-swap made i last);
    named = out ∙ ap (swap_remove_by (same_name name)) placed.named ∙ sym (keys_swap_remove_entry (same_name name) before) ∙ ap keys_of (sym entries_in-swap);
    kept = subst (λ es. AreKept es next) (sym entries_in-swap) (AreKept-swap_remove_entry before next placed.kept name);
  }

  pub files_in-swap : files_in left (swap made i last) ≡ without_file (files_in names made) name
  files_in-swap = ap files_made entries_in-swap ∙ files_made-swap_remove_entry before next placed.kept name

-- no file with that name
pub files_in-missing : (names : List (List ℕ)) (made : List NumberedFile) (next : ℕ) → AreInPlace names made next → (name : List ℕ) → position (same_name name) names ≡ None → files_in names made ≡ without_file (files_in names made) name
files_in-missing names made next placed name is =
    ap files_made (sym (swap_remove_entry-missing (same_name name) (entries_in names made) (ap (position (same_name name)) (sym placed.named) ∙ is)))
    ∙ files_made-swap_remove_entry (entries_in names made) next placed.kept name

-- names and numbers, sorted
pub names_of-in_order : (ms : List NumberedFile) (next : ℕ) → AreKept (entries_of ms) next → (ps : List NumberedName) → IsPermutation (map numbered_name_of ms) ps → IsNonDecreasingBy (λ (p : NumberedName). p.number) ps → map (λ (p : NumberedName). p.name) ps ≡ names_of (files_made (entries_of ms))
names_of-in_order ms next kept ps moved rising = names_of-places (entries_of ms) next kept ps (subst (λ qs. IsPermutation qs ps) (sym (places ms)) moved) rising
  where
    places : (ms : List NumberedFile) → map numbered_name_in (entries_of ms) ≡ map numbered_name_of ms
    places [] = refl
    places (m ∷ ms) = ap (λ qs. numbered_name_of m ∷ qs) (places ms)
