-- The desk's buffers and the world's: by name, and after a making or a put.
use Rattle.std.proofs.Common.{◌≡◌, ◌≢◌, ℕ, Bool, true, false, cond, ◌||◌, refl, sym, ap, ◌∙◌, List, [], ◌∷◌, ◌++◌, length, map, Option, None, Some, option_map, unwrap_or, inl, inr, All, if◌then◌else◌, ◌⊎◌}
use Rattle.std.specs.List.{list_any}
use Rattle.std.specs.Cmp.Lexicographic.{same_text, nat_list_eq_equiv}
use Rattle.std.proofs.lemmas.Bool.{cases_Bool, false≢true}
use Rattle.std.proofs.lemmas.List.{length-map}
use Rattle.std.proofs.lemmas.List.Elements.{All-nil, All-append, All-map, All-weaker}
use Rattle.std.proofs.lemmas.Map.Entries.{length-keys_of, lookup_head, lookup_tail}
use Rattle.std.proofs.lemmas.Map.Made.{is_some-lookup}
use Rattle.point_core.specs.declared.entry.Entry.{Entry}
use Rattle.point_core.specs.Agreement.{AgreesAbove}
use Rattle.point_core.specs.Named.{same_name}
use Rattle.point_core.proofs.Agreement.{AgreesAbove-append, AgreesAbove-trans}
use Rattle.point_core.proofs.Named.{has_named-names, named-All}
use Rattle.resv_core.specs.Resv.{Reservation, empty}
use Rattle.dmabuf_core.specs.Buffers.{Buffer, has_buffer, entries_of, names_of, OnlyChanges}
use Rattle.desk_core.specs.theorem.World.{MadeBuffer, has_made_buffer, buffer_named, buffer_put_set, buffer_of, with_more, put_into}

abbrev pub made_buffer_names : List MadeBuffer → List (List ℕ)
made_buffer_names bs = map (λ (b : MadeBuffer). b.name) bs

-- by name

pub has_buffer-names : (ks : List Buffer) (bs : List MadeBuffer) (name : List ℕ) → names_of ks ≡ made_buffer_names bs → has_buffer ks name ≡ has_made_buffer bs name
has_buffer-names ks bs name is = is_some-lookup (same_name name) ks ∙ ap (list_any (same_name name)) is ∙ has_named-names (λ (b : MadeBuffer). b.name) bs name

pub length-buffers : (ks : List Buffer) (bs : List MadeBuffer) → names_of ks ≡ made_buffer_names bs → length ks ≡ length bs
length-buffers ks bs is = sym (length-keys_of ks) ∙ ap length is ∙ length-map bs (λ (b : MadeBuffer). b.name)

pub same_or_other : (name other : List ℕ) → (name ≡ other) ⊎ (name ≢ other)
same_or_other name other = elim (cases_Bool (same_name name other)) [
  | inl same ↦ inl (same_text name other (sym same))
  | inr apart ↦ inr (λ is. false≢true (sym apart ∙ ap (λ n. same_name name n) (sym is) ∙ nat_list_eq_equiv.refl name))
]

-- a new buffer holds nothing

abbrev pub entries_in : Option Reservation → List Entry
entries_in o = unwrap_or (option_map (λ (t : Reservation). t.entries) o) []

pub entries_of-new : (ks : List Buffer) (b name : List ℕ) → entries_of (ks ++ (b, empty) ∷ []) name ≡ entries_of ks name
entries_of-new [] b name = elim (cases_Bool (same_name name b)) [
  | inl is ↦ ap entries_in (lookup_head (same_name name) (b, empty) [] is)
  | inr isnt ↦ ap entries_in (lookup_tail (same_name name) (b, empty) [] isnt)
]
entries_of-new (k ∷ ks) b name = elim (cases_Bool (same_name name k.0)) [
  | inl is ↦ ap entries_in (lookup_head (same_name name) k (ks ++ (b, empty) ∷ []) is ∙ sym (lookup_head (same_name name) k ks is))
  | inr isnt ↦ ap entries_in (lookup_tail (same_name name) k (ks ++ (b, empty) ∷ []) isnt) ∙ entries_of-new ks b name ∙ ap entries_in (sym (lookup_tail (same_name name) k ks isnt))
]

abbrev put_of : Option MadeBuffer → List Entry
put_of o = unwrap_or (option_map (λ (b : MadeBuffer). b.put) o) []

put-cond : (t : Bool) (c : MadeBuffer) (o p : Option MadeBuffer) → put_of p ≡ put_of o → put_of (cond t (Some c) p) ≡ put_of (cond t (Some c) o)
put-cond true c o p is = refl
put-cond false c o p is = is

put-none : (t : Bool) (b : List ℕ) → put_of (cond t (Some (buffer_of b [])) None) ≡ []
put-none true b = refl
put-none false b = refl

pub buffer_put_set-new : (bs : List MadeBuffer) (b name : List ℕ) → buffer_put_set (bs ++ buffer_of b [] ∷ []) name ≡ buffer_put_set bs name
buffer_put_set-new [] b name = put-none (same_name b name) b
buffer_put_set-new (c ∷ bs) b name = put-cond (same_name c.name name) c (buffer_named bs name) (buffer_named (bs ++ buffer_of b [] ∷ []) name) (buffer_put_set-new bs b name)

-- what is put into a buffer

name-more : (t : Bool) (es : List Entry) (c : MadeBuffer) → (if t then with_more es c else c).name ≡ c.name
name-more true es c = refl
name-more false es c = refl

pub names-put_into : (bs : List MadeBuffer) (b : List ℕ) (es : List Entry) → made_buffer_names (put_into bs b es) ≡ made_buffer_names bs
names-put_into [] b es = refl
names-put_into (c ∷ bs) b es =
    ap (λ n. n ∷ made_buffer_names (put_into bs b es)) (name-more (same_name c.name b) es c)
    ∙ ap (λ ns. c.name ∷ ns) (names-put_into bs b es)

put-same : (t : Bool) (c : MadeBuffer) (b : List ℕ) (es : List Entry) (o p : Option MadeBuffer) → same_name c.name b ≡ t → (t ≡ false → put_of p ≡ put_of o ++ es) → put_of (cond (same_name (if t then with_more es c else c).name b) (Some (if t then with_more es c else c)) p) ≡ put_of (cond t (Some c) o) ++ es
put-same true c b es o p is rest = ap (λ u. put_of (cond u (Some (with_more es c)) p)) is
put-same false c b es o p is rest = ap (λ u. put_of (cond u (Some c) p)) is ∙ rest refl

has-rest : (t r : Bool) → (t || r) ≡ true → t ≡ false → r ≡ true
has-rest true r has is = absurd (cc)
has-rest false r has is = has

pub buffer_put_set-put : (bs : List MadeBuffer) (b : List ℕ) (es : List Entry) → has_made_buffer bs b ≡ true → buffer_put_set (put_into bs b es) b ≡ buffer_put_set bs b ++ es
buffer_put_set-put [] b es has = absurd (false≢true has)
buffer_put_set-put (c ∷ bs) b es has =
    put-same (same_name c.name b) c b es (buffer_named bs b) (buffer_named (put_into bs b es) b) refl
    (λ is. buffer_put_set-put bs b es (has-rest (same_name c.name b) (has_made_buffer bs b) has is))

put-other : (t u : Bool) (c : MadeBuffer) (b other : List ℕ) (es : List Entry) (o p : Option MadeBuffer) → same_name c.name b ≡ t → same_name c.name other ≡ u → other ≢ b → put_of p ≡ put_of o → put_of (cond (same_name (if t then with_more es c else c).name other) (Some (if t then with_more es c else c)) p) ≡ put_of (cond u (Some c) o)
put-other true true c b other es o p is is' apart rest = absurd (apart (sym (same_text c.name other (sym is')) ∙ same_text c.name b (sym is)))
put-other true false c b other es o p is is' apart rest = ap (λ v. put_of (cond v (Some (with_more es c)) p)) is' ∙ rest
put-other false true c b other es o p is is' apart rest = ap (λ v. put_of (cond v (Some c) p)) is'
put-other false false c b other es o p is is' apart rest = ap (λ v. put_of (cond v (Some c) p)) is' ∙ rest

pub buffer_put_set-other : (bs : List MadeBuffer) (b other : List ℕ) (es : List Entry) → other ≢ b → buffer_put_set (put_into bs b es) other ≡ buffer_put_set bs other
buffer_put_set-other [] b other es apart = refl
buffer_put_set-other (c ∷ bs) b other es apart =
    put-other (same_name c.name b) (same_name c.name other) c b other es (buffer_named bs other) (buffer_named (put_into bs b es) other) refl refl apart
    (buffer_put_set-other bs b other es apart)

-- tables that agree with put sets

AgreesAbove-two : (reach : List ℕ) {es es' put put' : List Entry} → es' ≡ es → put' ≡ put → AgreesAbove reach es put → AgreesAbove reach es' put'
AgreesAbove-two reach is is' h = rw (is, is') h

-- they do so after more is put into one of them
pub tables-put : (reach : List ℕ) (ks new : List Buffer) (bs : List MadeBuffer) (b : List ℕ) (added put : List Entry) → ((name : List ℕ) → AgreesAbove reach (entries_of ks name) (buffer_put_set bs name)) → has_made_buffer bs b ≡ true → AgreesAbove reach (entries_of new b) (entries_of ks b ++ added) → AgreesAbove reach added put → OnlyChanges b ks new → (name : List ℕ) → AgreesAbove reach (entries_of new name) (buffer_put_set (put_into bs b put) name)
tables-put reach ks new bs b added put agree has now same only name = elim (same_or_other name b) [
  | inl is ↦ rw is (AgreesAbove-two reach refl (buffer_put_set-put bs b put has) (AgreesAbove-trans now (AgreesAbove-append (agree b) same)))
  | inr apart ↦ AgreesAbove-two reach (ap entries_in (only.others name apart)) (buffer_put_set-other bs b name put apart) (agree name)
]

-- and after one is trimmed
pub tables-trim : (reach : List ℕ) (ks new : List Buffer) (bs : List MadeBuffer) (b : List ℕ) → ((name : List ℕ) → AgreesAbove reach (entries_of ks name) (buffer_put_set bs name)) → AgreesAbove reach (entries_of new b) (entries_of ks b) → OnlyChanges b ks new → (name : List ℕ) → AgreesAbove reach (entries_of new name) (buffer_put_set bs name)
tables-trim reach ks new bs b agree now only name = elim (same_or_other name b) [
  | inl is ↦ rw is (AgreesAbove-trans now (agree b))
  | inr apart ↦ AgreesAbove-two reach (ap entries_in (only.others name apart)) refl (agree name)
]

-- what holds of all that was put in

pub buffer_put_set-All : (P : Entry → Type 0) (bs : List MadeBuffer) (name : List ℕ) → All (λ (b : MadeBuffer). All P b.put) bs → All P (buffer_put_set bs name)
buffer_put_set-All P bs name all = found (buffer_named bs name) (λ b is. named-All (λ (b : MadeBuffer). b.name) (λ (b : MadeBuffer). All P b.put) bs name b all is)
  where
    found : (o : Option MadeBuffer) → ((b : MadeBuffer) → o ≡ Some b → All P b.put) → All P (put_of o)
    found None h = All-nil P
    found (Some b) h = h b refl

pub put_into-All : (P : Entry → Type 0) (bs : List MadeBuffer) (b : List ℕ) (es : List Entry) → All P es → All (λ (b : MadeBuffer). All P b.put) bs → All (λ (b : MadeBuffer). All P b.put) (put_into bs b es)
put_into-All P bs b es more all =
    let Q : MadeBuffer → Type 0 = λ c. All P c.put in
    All-map Q (λ c. if same_name c.name b then with_more es c else c) bs
    (All-weaker Q (λ c. Q (if same_name c.name b then with_more es c else c)) (λ c put. each (same_name c.name b) c put) bs all)
  where
    each : (t : Bool) (c : MadeBuffer) → All P c.put → All P (if t then with_more es c else c).put
    each true c put = All-append P c.put es put more
    each false c put = put
