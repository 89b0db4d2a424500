-- What is reported of everything, by names and by what the desk keeps.
use Rattle.std.proofs.Common.{◌≡◌, ℕ, zero, suc, ◌+◌, ◌<◌, ◌≤◌, ◌||◌, Bool, true, false, cond, find, refl, sym, ap, ◌∙◌, List, [], ◌∷◌, ◌++◌, length, map, take, get_or, Option, None, Some, Err, if◌then◌else◌, arith, Bor}
use Rattle.std.specs.List.{IsDistinct, AllByRecursion}
use Rattle.std.specs.Cmp.Lexicographic.{nat_list_eq_equiv}
use Rattle.std.proofs.lemmas.Map.Keys.{IsDistinct-head, IsDistinct-tail}
use Rattle.std.proofs.lemmas.List.Elements.{All-map, All-append, All-nil}
use Rattle.point_core.specs.declared.limits.TheConstants.{BUFFERS}
use Rattle.point_core.specs.Named.{same_name, is_named, named}
use Rattle.point_core.specs.declared.entry.Entry.{Entry}
use Rattle.point_core.specs.declared.entry.Usage.{Usage}
use Rattle.point_core.specs.declared.entry.Usage.TheVariants.{Kernel, Write, Read, Bookkeep}
use Rattle.point_core.specs.declared.listing.TopRow.{TopRow}
use Rattle.point_core.specs.Agreement.{listing}
use Rattle.point_core.specs.Usage.{usage_number}
use Rattle.resv_core.specs.Resv.{rows_at, rows_of, row_of}
use Rattle.desk_core.specs.Keeping.{AreRowsMade, HasNoneBehind}
use Rattle.desk_core.proofs.Behind.{AreMade-behind}
use Rattle.std.specs.Prelude.{IsSome}
use Rattle.std.specs.List.{list_any}
use Rattle.std.specs.Option.{option_copied}
use Rattle.std.proofs.lemmas.List.{map-append, length-map, length-take, take_more, get_or-map, get_or_default}
use Rattle.std.proofs.lemmas.Map.Entries.{length-keys_of}
use Rattle.std.proofs.lemmas.Map.Made.{is_some-lookup}
use Rattle.std.proofs.lemmas.Option.{same_Some}
use Rattle.point_core.specs.declared.refusal.Refusal.{Refusal}
use Rattle.point_core.specs.declared.refusal.Refusal.TheVariants.{Memory, NoEntry}
use Rattle.point_core.specs.Refusal.{IsRefusedFor}
use Rattle.syncfile_core.specs.SyncFile.{File, file_of, file_at}
use Rattle.syncfile_core.specs.Files.{HasDistinctNames, names_of as file_names_of}
use Rattle.dmabuf_core.specs.Buffers.{Buffer, has_buffer, names_of}

apart-at : {X : Type 0} (name_of : X → List ℕ) (a : List ℕ) (xs : List X) (i : ℕ) (d : X) → AllByRecursion (λ y. same_name a y ≡ false) (map name_of xs) → i < length xs → same_name a (name_of (get_or xs i d)) ≡ false
apart-at name_of a [] i d apart h = absurd (omega arith)
apart-at name_of a (x ∷ xs) zero d apart h = apart.0
apart-at name_of a (x ∷ xs) (suc i) d apart h = apart-at name_of a xs i d apart.1 (omega arith)

-- if names are distinct, each thing is found by its own
pub named-own : {X : Type 0} (name_of : X → List ℕ) (xs : List X) (i : ℕ) (d : X) → IsDistinct same_name (map name_of xs) → i < length xs → named name_of xs (name_of (get_or xs i d)) ≡ Some (get_or xs i d)
named-own name_of [] i d distinct h = absurd (omega arith)
named-own name_of (x ∷ xs) zero d distinct h = ap (λ b. cond b (Some x) (find (is_named name_of (name_of x)) xs)) (nat_list_eq_equiv.refl (name_of x))
named-own name_of (x ∷ xs) (suc i) d distinct h =
    let name = name_of (get_or xs i d) in
    let apart = apart-at name_of (name_of x) xs i d (IsDistinct-head same_name (name_of x) (map name_of xs) distinct) (omega arith) in
    ap (λ b. cond b (Some x) (find (is_named name_of name) xs)) apart
    ∙ named-own name_of xs i d (IsDistinct-tail same_name (name_of x) (map name_of xs) distinct) (omega arith)

-- a buffer's rows are of timelines that were made

rows_at-made : (made : ℕ) (reach : List ℕ) (es : List Entry) (usage : Usage) → HasNoneBehind made reach es → AreRowsMade made (rows_at es reach usage)
rows_at-made made reach es usage h = All-map (λ (r : TopRow). r.ctx ≤ made) (row_of usage) (listing es (usage_number usage) reach) (AreMade-behind made reach es (usage_number usage) h)

pub rows_of-made : (made : ℕ) (reach : List ℕ) (es : List Entry) → HasNoneBehind made reach es → AreRowsMade made (rows_of es reach)
rows_of-made made reach es h =
    let P = λ (r : TopRow). r.ctx ≤ made in
    All-append P (rows_at es reach Kernel) _ (rows_at-made made reach es Kernel h)
    (All-append P (rows_at es reach Write) _ (rows_at-made made reach es Write h)
    (All-append P (rows_at es reach Read) _ (rows_at-made made reach es Read h)
    (All-append P (rows_at es reach Bookkeep) [] (rows_at-made made reach es Bookkeep h) (All-nil P))))

-- rows, and the row of the next
pub rows-next : {A B : Type 0} (row_of : A → B) (rows later : List B) (row : B) (xs : List A) (i : ℕ) (x : A) → i < length xs → x ≡ get_or xs i x → rows ≡ map row_of (take i xs) → row ≡ row_of x → later ≡ rows ++ row ∷ [] → later ≡ map row_of (take (i + 1) xs)
rows-next row_of rows later row xs i x within at written is next =
    next ∙ ap (λ rs. rs ++ row ∷ []) written
    ∙ ap (λ r. map row_of (take i xs) ++ r ∷ []) is
    ∙ sym (map-append row_of (take i xs) (x ∷ []))
    ∙ ap (λ y. map row_of (take i xs ++ y ∷ [])) at
    ∙ ap (map row_of) (sym (take_more xs i x within))

-- the file of a name that was reported

pub record IsFileAt (fs : List File) (i : ℕ) (name : List ℕ) (f : File) : Type 0 where
  pub within : i < length fs
  pub at : f ≡ get_or fs i f
  pub found : file_at fs name ≡ Some f

pub file_at-reported : (fs : List File) (names : List (List ℕ)) (i : ℕ) (name : List ℕ) → names ≡ file_names_of fs → HasDistinctNames fs → i < length names → name ≡ get_or names i name → (f : File) × IsFileAt fs i name f
file_at-reported fs names i name reported distinct h at =
    let named_by = λ (f : File). f.name in
    let none = file_of [] [] [] in
    let within : i < length fs = omega (arith, ap length reported, length-map fs named_by, h) in
    let f = get_or fs i none in
    let is : name ≡ f.name = at ∙ ap (λ ns. get_or ns i name) reported ∙ get_or-map named_by fs i none name within in (
      f,
      record {
        within = within;
        at = get_or_default fs i none f within;
        found = ap (file_at fs) is ∙ named-own named_by fs i none distinct within;
      },
    )

pub IsSome-copied : (o : Option (Bor File)) (f : File) → option_copied o ≡ Some f → IsSome o
IsSome-copied None f is = absurd (cc)
IsSome-copied (Some b) f is = refl

pub copied-now : (o : Option (Bor File)) (b : Bor File) (f : File) → o ≡ Some b → option_copied o ≡ Some f → b.now ≡ f
copied-now o b f is found = same_Some b.now f (sym (ap option_copied is) ∙ found)

-- a buffer of a name that was reported

list_any-at : (ks : List (List ℕ)) (i : ℕ) (name : List ℕ) → i < length ks → name ≡ get_or ks i name → list_any (same_name name) ks ≡ true
list_any-at [] i name h at = absurd (omega arith)
list_any-at (k ∷ ks) zero name h at = ap (λ b. b || list_any (same_name name) ks) (ap (same_name name) (sym at) ∙ nat_list_eq_equiv.refl name)
list_any-at (k ∷ ks) (suc i) name h at = ap (λ b. same_name name k || b) (list_any-at ks i name (omega arith) at) ∙ or-true (same_name name k)
  where
    or-true : (b : Bool) → (b || true) ≡ true
    or-true true = refl
    or-true false = refl

pub has_buffer-reported : (bs : List Buffer) (i : ℕ) (name : List ℕ) → i < length (names_of bs) → name ≡ get_or (names_of bs) i name → has_buffer bs name ≡ true
has_buffer-reported bs i name h at = is_some-lookup (same_name name) bs ∙ list_any-at (names_of bs) i name h at

pub Memory-reported : (T : Type 0) (b : Bool) (e : Refusal) → b ≡ true → IsRefusedFor {T = T} (if b then None else Some NoEntry) (Err e) → e ≡ Memory
Memory-reported T true e is memory = memory
Memory-reported T false e is refused = absurd (cc)

-- there are not more rows than buffers
pub within-BUFFERS : {T : Type 0} (bs : List Buffer) (row_of : List ℕ → T) (rows : List T) (i : ℕ) → rows ≡ map row_of (take i (names_of bs)) → length bs ≤ BUFFERS → length rows ≤ BUFFERS
within-BUFFERS bs row_of rows i is within =
    let names = names_of bs in
    omega (arith, ap length is, length-map (take i names) row_of, length-take i names, length-keys_of bs, within)
