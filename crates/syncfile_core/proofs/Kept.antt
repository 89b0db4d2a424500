-- Files in a map by name, each with its serial number, after an insertion and a removal.
use Rattle.std.proofs.Common.{◌≡◌, ℕ, ◌+◌, ◌<◌, Bool, true, false, is_some, refl, sym, ap, ◌∙◌, subst, List, [], ◌∷◌, ◌++◌, length, None, Some, arith, ◌&&◌, ◌||◌, get_or, take, zero, suc, cond, map, nat_eq, inl, inr, option_map, position, Option, option_copied, Bor}
use Rattle.std.specs.List.{list_all, list_any, cons_option, IsDistinct, AllByRecursion}
use Rattle.std.specs.List.Sorted.{IsPermutation, IsNonDecreasingBy}
use Rattle.std.specs.Map.{keys_of, lookup, remove_entry}
use Rattle.std.specs.Cmp.{nat_eq_equiv}
use Rattle.std.specs.Cmp.Lexicographic.{nat_list_eq_equiv, same_text}
use Rattle.std.proofs.Math.Bool.{and-false}
use Rattle.std.proofs.lemmas.Bool.{cases_Bool}
use Rattle.std.proofs.lemmas.List.{take_more, map-append, length-map, get_or-map, get_or_default}
use Rattle.std.proofs.lemmas.List.Quantifiers.{position-Some}
use Rattle.std.proofs.lemmas.List.Elements.{filter_map-append, All-nil, All-push, All-tail, All-weaker, recursion_from_All}
use Rattle.std.proofs.lemmas.List.Folds.{list_all-append}
use Rattle.std.proofs.lemmas.List.Sorted.{IsPermutation-sym, IsPermutation-trans, IsPermutation-cons, IsPermutation-map, IsPermutation-swap_remove, All-permutation, length_permutation}
use Rattle.std.proofs.lemmas.Map.Keys.{IsDistinct-IsPermutation, IsDistinct-head, IsDistinct-tail, IsDistinct-push}
use Rattle.std.proofs.lemmas.Map.Views.{exact_unsigned_eq}
use Rattle.indexmap.specs.IndexMap.{swap_remove_entry}
use Rattle.indexmap.proofs.MapLemmas.{lookup_permutation, swap_remove_entry-found, swap_remove_entry-missing, Missing-position}
use Rattle.point_core.specs.Named.{same_name, things_in, IsKeyed}
use Rattle.point_core.proofs.Named.{named-things_in, has_named-things_in, is_some-named, length-things_in, things_in-append, things_in-remove_entry, without_named-absent}
use Rattle.syncfile_core.specs.declared.file_slots.NumberedFile.{NumberedFile}
use Rattle.syncfile_core.specs.declared.file_slots.NumberedName.{NumberedName}
use Rattle.syncfile_core.specs.Numbered.{put_in, by_number}
use Rattle.syncfile_core.specs.SyncFile.{File, file_name, file_at}
use Rattle.syncfile_core.specs.Files.{has_file, without_file, names_of, number_of, files_made, AreKept, HasDistinctNames}
use Rattle.syncfile_core.specs.Merge.{files_at}
use Rattle.syncfile_core.proofs.Causes.{is_none}
use Rattle.syncfile_core.proofs.InOrder.{Rises, IsPermutation-by_number, Rises-by_number, by_number-permuted, by_number-last, same_rising, Rises-from, remove_entry-put_in}

is_some-option_map : {X Y : Type 0} (f : X → Y) (o : Option X) → is_some (option_map f o) ≡ is_some o
is_some-option_map f None = refl
is_some-option_map f (Some x) = refl

abbrev Entries : Type 0
Entries = List (List ℕ × NumberedFile)

abbrev file_in : NumberedFile → File
file_in m = m.file.value

-- the name of an entry, and its serial number
abbrev pub numbered_name_in : List ℕ × NumberedFile → NumberedName
numbered_name_in e = record { name = e.0; number = e.1.number }

abbrev IsUnderItsName : List ℕ × NumberedFile → Type 0
IsUnderItsName e = e.0 ≡ e.1.file.value.name

keyed-from : (es : Entries) → AllByRecursion IsUnderItsName es → IsKeyed file_name file_in es
keyed-from [] all = refl
keyed-from (e ∷ es) all =
    let own : e.0 ≡ e.1.file.value.name = all.0 in
    let rest : IsKeyed file_name file_in es = keyed-from es all.1 in
    cc

pub AreKept-none : (es : Entries) (next : ℕ) → es ≡ [] → AreKept es next
unfolding IsDistinct
AreKept-none es next is = subst (λ ds. AreKept ds next) (sym is) (record {
  keyed = All-nil IsUnderItsName;
  distinct = tt;
  numbered = tt;
  below = All-nil (λ e. number_of e < next);
})

-- entries in another order
module _ (es fs : Entries) (next : ℕ) (moved : IsPermutation es fs) (kept : AreKept es next) where
  pub AreKept-permuted : AreKept fs next
  AreKept-permuted = record {
    keyed = All-permutation IsUnderItsName es fs moved kept.keyed;
    distinct = IsDistinct-IsPermutation same_name nat_list_eq_equiv.symm (keys_of es) (keys_of fs) (IsPermutation-map (λ (e : List ℕ × NumberedFile). e.0) es fs moved) kept.distinct;
    numbered = IsDistinct-IsPermutation nat_eq nat_eq_equiv.symm (map number_of es) (map number_of fs) (IsPermutation-map number_of es fs moved) kept.numbered;
    below = All-permutation (λ e. number_of e < next) es fs moved kept.below;
  }

module _ (es : Entries) (next : ℕ) (kept : AreKept es next) where
  ordered : AreKept (by_number number_of es) next
  ordered = AreKept-permuted es (by_number number_of es) next (IsPermutation-by_number number_of es) kept

  keyed : IsKeyed file_name file_in (by_number number_of es)
  keyed = keyed-from (by_number number_of es) (recursion_from_All IsUnderItsName (by_number number_of es) ordered.keyed)

  -- the list that such entries represent

  pub HasDistinctNames-made : HasDistinctNames (files_made es)
  HasDistinctNames-made = subst (IsDistinct same_name) keyed ordered.distinct

  pub names_of-keys : keys_of (by_number number_of es) ≡ names_of (files_made es)
  names_of-keys = keyed

  found-in_order : (name : List ℕ) → lookup (same_name name) (by_number number_of es) ≡ lookup (same_name name) es
  found-in_order name = lookup_permutation nat_list_eq_equiv es (by_number number_of es) (IsPermutation-by_number number_of es) ordered.distinct (same_name name) (nat_list_eq_equiv.congr name)

  pub file_at-made : (name : List ℕ) → file_at (files_made es) name ≡ option_map file_in (lookup (same_name name) es)
  file_at-made name = named-things_in file_name file_in name (by_number number_of es) keyed ∙ ap (option_map file_in) (found-in_order name)

  pub has_file-made : (name : List ℕ) → has_file (files_made es) name ≡ is_some (lookup (same_name name) es)
  has_file-made name = has_named-things_in file_name file_in name (by_number number_of es) keyed ∙ ap is_some (found-in_order name)

  -- names and numbers, sorted

  map-keys : (ds : Entries) → map (λ (p : NumberedName). p.name) (map numbered_name_in ds) ≡ keys_of ds
  map-keys [] = refl
  map-keys (d ∷ ds) = ap (λ ns. d.0 ∷ ns) (map-keys ds)

  map-numbers : (ds : Entries) → map (λ (p : NumberedName). p.number) (map numbered_name_in ds) ≡ map number_of ds
  map-numbers [] = refl
  map-numbers (d ∷ ds) = ap (λ ns. number_of d ∷ ns) (map-numbers ds)

  all-places : (n : ℕ) (ds : Entries) → AllByRecursion (λ d. n < number_of d) ds → AllByRecursion (λ (p : NumberedName). n < p.number) (map numbered_name_in ds)
  all-places n [] all = tt
  all-places n (d ∷ ds) all = (all.0, all-places n ds all.1)

  Rises-places : (ds : Entries) → Rises number_of ds → Rises (λ (p : NumberedName). p.number) (map numbered_name_in ds)
  Rises-places [] rises = tt
  Rises-places (d ∷ ds) rises = (all-places (number_of d) ds rises.0, Rises-places ds rises.1)

  pub names_of-places : (ps : List NumberedName) → IsPermutation (map numbered_name_in es) ps → IsNonDecreasingBy (λ (p : NumberedName). p.number) ps → map (λ (p : NumberedName). p.name) ps ≡ names_of (files_made es)
  names_of-places ps moved rising =
      let number : NumberedName → ℕ = λ p. p.number in
      let numbered = subst (IsDistinct nat_eq) (sym (map-numbers es)) kept.numbered in
      let rises = Rises-from number ps rising (IsDistinct-IsPermutation nat_eq nat_eq_equiv.symm (map number (map numbered_name_in es)) (map number ps) (IsPermutation-map number (map numbered_name_in es) ps moved) numbered) in
      let turned = IsPermutation-map numbered_name_in es (by_number number_of es) (IsPermutation-by_number number_of es) in
      let is = same_rising number ps (map numbered_name_in (by_number number_of es)) rises (Rises-places (by_number number_of es) (Rises-by_number number_of es kept.numbered))
      (IsPermutation-trans ps (map numbered_name_in es) (map numbered_name_in (by_number number_of es)) (IsPermutation-sym (map numbered_name_in es) ps moved) turned) in
      ap (map (λ (p : NumberedName). p.name)) is ∙ map-keys (by_number number_of es) ∙ keyed

  -- the file with that name is removed, and no other one moves
  module _ (name : List ℕ) where
    taken_out : (ds : Entries) (i : ℕ) → position (same_name name) (keys_of ds) ≡ Some i → (entry : List ℕ × NumberedFile) × (same_name name entry.0 ≡ true) × IsPermutation ds (entry ∷ swap_remove_entry (same_name name) ds)
    taken_out [] i is = absurd (cc)
    taken_out (d ∷ ds) i is =
        let e = get_or (d ∷ ds) i d in
        let found = position-Some (same_name name) (keys_of (d ∷ ds)) i d.0 is in
        let within : i < length (d ∷ ds) = omega (arith, found.0, length-map (d ∷ ds) (λ (c : List ℕ × NumberedFile). c.0)) in (
          e,
          ap (same_name name) (sym (get_or-map (λ (c : List ℕ × NumberedFile). c.0) (d ∷ ds) i d d.0 within)) ∙ found.1,
          subst (λ left. IsPermutation (d ∷ ds) (e ∷ left)) (sym (swap_remove_entry-found (same_name name) (d ∷ ds) i e is))
              (IsPermutation-swap_remove (d ∷ ds) i e within (get_or_default (d ∷ ds) i d e within)),
        )

    module _ (e : List ℕ × NumberedFile) (left : Entries) (here : same_name name e.0 ≡ true) (moved : IsPermutation es (e ∷ left)) where
      both : AreKept (e ∷ left) next
      both = AreKept-permuted es (e ∷ left) next moved kept

      AreKept-left : AreKept left next
      AreKept-left = record {
        keyed = All-tail IsUnderItsName e left both.keyed;
        distinct = IsDistinct-tail same_name e.0 (keys_of left) both.distinct;
        numbered = IsDistinct-tail nat_eq (number_of e) (map number_of left) both.numbered;
        below = All-tail (λ d. number_of d < next) e left both.below;
      }

      order : by_number number_of es ≡ put_in number_of e (by_number number_of left)
      order = by_number-permuted number_of es (e ∷ left) kept.numbered moved

      others : AllByRecursion (λ key. same_name name key ≡ false) (keys_of (by_number number_of left))
      others =
          let turned = IsPermutation-cons e left (by_number number_of left) (IsPermutation-by_number number_of left) in
          let all = AreKept-permuted (e ∷ left) (e ∷ by_number number_of left) next turned both in
          subst (λ key. AllByRecursion (λ other. same_name key other ≡ false) (keys_of (by_number number_of left))) (sym (same_text name e.0 (sym here)))
          (IsDistinct-head same_name e.0 (keys_of (by_number number_of left)) all.distinct)

      files_made-left : files_made left ≡ without_file (files_made es) name
      files_made-left =
          ap (things_in file_in) (sym (remove_entry-put_in number_of (same_name name) e (by_number number_of left) here others) ∙ ap (remove_entry (same_name name)) (sym order))
          ∙ things_in-remove_entry file_name file_in name (by_number number_of es) keyed ordered.distinct

    pub AreKept-swap_remove_entry : AreKept (swap_remove_entry (same_name name) es) next
    AreKept-swap_remove_entry = by (position (same_name name) (keys_of es)) refl
      where
        by : (o : Option ℕ) → position (same_name name) (keys_of es) ≡ o → AreKept (swap_remove_entry (same_name name) es) next
        by None is = subst (λ ds. AreKept ds next) (sym (swap_remove_entry-missing (same_name name) es is)) kept
        by (Some i) is = let out = taken_out es i is in AreKept-left out.0 (swap_remove_entry (same_name name) es) out.1 out.2

    pub files_made-swap_remove_entry : files_made (swap_remove_entry (same_name name) es) ≡ without_file (files_made es) name
    files_made-swap_remove_entry = by (position (same_name name) (keys_of es)) refl
      where
        by : (o : Option ℕ) → position (same_name name) (keys_of es) ≡ o → files_made (swap_remove_entry (same_name name) es) ≡ without_file (files_made es) name
        by None is =
            let absent = (Missing-position (same_name name) es is).value in
            ap files_made (swap_remove_entry-missing (same_name name) es is)
            ∙ sym (without_named-absent file_name (files_made es) name (has_file-made name ∙ ap is_some absent))
        by (Some i) is = let out = taken_out es i is in files_made-left out.0 (swap_remove_entry (same_name name) es) out.1 out.2

-- a new file goes last
module _ (es : Entries) (made : NumberedFile) (kept : AreKept es made.number) (new : has_file (files_made es) made.file.value.name ≡ false) where
  abbrev x : File
  x = made.file.value

  pub absent : lookup (same_name x.name) es ≡ None
  absent = is_none (lookup (same_name x.name) es) (sym (has_file-made es made.number kept x.name) ∙ new)

  no_key : (ds : Entries) → lookup (same_name x.name) ds ≡ None → list_any (same_name x.name) (keys_of ds) ≡ false
  no_key [] is = refl
  no_key (d ∷ ds) is = by (same_name x.name d.0) is (no_key ds)
    where
      by : (b : Bool) → cond b (Some d.1) (lookup (same_name x.name) ds) ≡ None → (lookup (same_name x.name) ds ≡ None → list_any (same_name x.name) (keys_of ds) ≡ false) → (b || list_any (same_name x.name) (keys_of ds)) ≡ false
      by true bad rest = absurd (cc)
      by false is rest = rest is

  unequal : (m n : ℕ) → n < m → nat_eq m n ≡ false
  unequal m n low = elim (cases_Bool (nat_eq m n)) [
    | inl is ↦ let same = exact_unsigned_eq m n is in absurd (omega (arith, low, same))
    | inr apart ↦ apart
  ]

  no_number : (ds : Entries) → AllByRecursion (λ d. number_of d < made.number) ds → list_any (nat_eq made.number) (map number_of ds) ≡ false
  no_number [] low = refl
  no_number (d ∷ ds) low = rw (unequal made.number (number_of d) low.0) (no_number ds low.1)

  pub files_made-append : files_made (es ++ (x.name, made) ∷ []) ≡ files_made es ++ x ∷ []
  files_made-append =
      ap (things_in file_in) (by_number-last number_of es (x.name, made) (recursion_from_All (λ e. number_of e < made.number) es kept.below))
      ∙ things_in-append file_name file_in (by_number number_of es) ((x.name, made) ∷ [])

  pub AreKept-append : AreKept (es ++ (x.name, made) ∷ []) (made.number + 1)
  AreKept-append = record {
    keyed = All-push IsUnderItsName es (x.name, made) kept.keyed refl;
    distinct = subst (IsDistinct same_name) (sym (map-append (λ (e : List ℕ × NumberedFile). e.0) es ((x.name, made) ∷ []))) (IsDistinct-push nat_list_eq_equiv (keys_of es) x.name kept.distinct (no_key es absent));
    numbered = subst (IsDistinct nat_eq) (sym (map-append number_of es ((x.name, made) ∷ []))) (IsDistinct-push nat_eq_equiv (map number_of es) made.number kept.numbered (no_number es (recursion_from_All (λ e. number_of e < made.number) es kept.below)));
    below = All-push (λ e. number_of e < made.number + 1) es (x.name, made) (All-weaker (λ e. number_of e < made.number) (λ e. number_of e < made.number + 1) (λ e low. omega (arith, low)) es kept.below) (omega arith);
  }

pub length-made : (es : Entries) → length (files_made es) ≡ length es
length-made es = length-things_in file_name file_in (by_number number_of es) ∙ length_permutation es (by_number number_of es) (IsPermutation-by_number number_of es)

pub has_file-copied : (fs : List File) (name : List ℕ) (found : Option (Bor File)) → option_copied found ≡ file_at fs name → is_some found ≡ has_file fs name
has_file-copied fs name found is = sym (is_some-option_map (λ b. b.now) found) ∙ ap is_some is ∙ is_some-named file_name fs name

-- files that are looked up by name, one after another
pub files_at-take_more : (fs : List File) (names : List (List ℕ)) (i : ℕ) (name : List ℕ) (f : File) → i < length names → name ≡ get_or names i name → file_at fs name ≡ Some f → files_at fs (take (i + 1) names) ≡ files_at fs (take i names) ++ f ∷ []
files_at-take_more fs names i name f low at found =
    ap (files_at fs) (take_more names i name low ∙ ap (λ n. take i names ++ n ∷ []) (sym at))
    ∙ filter_map-append (file_at fs) (take i names) (name ∷ [])
    ∙ ap (λ o. files_at fs (take i names) ++ cons_option o []) found

pub list_all-take_more : {X : Type 0} (test : X → Bool) (xs : List X) (i : ℕ) (x : X) → i < length xs → x ≡ get_or xs i x → list_all test (take i xs) ≡ true → test x ≡ true → list_all test (take (i + 1) xs) ≡ true
list_all-take_more test xs i x low at before here =
    ap (list_all test) (take_more xs i x low ∙ ap (λ y. take i xs ++ y ∷ []) (sym at))
    ∙ list_all-append test (take i xs) (x ∷ [])
    ∙ rw (before, here) refl

-- one element that fails is enough
pub list_all-fails : {X : Type 0} (test : X → Bool) (xs : List X) (i : ℕ) (x : X) → i < length xs → x ≡ get_or xs i x → test x ≡ false → list_all test xs ≡ false
list_all-fails test [] i x low at fails = absurd (omega arith)
list_all-fails test (y ∷ ys) zero x low at fails = rw (sym (ap test at) ∙ fails) refl
list_all-fails test (y ∷ ys) (suc i) x low at fails = ap (λ b. test y && b) (list_all-fails test ys i x (omega arith) at fails) ∙ and-false (test y)
