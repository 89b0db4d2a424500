-- Buffers in a map by name, after a write to one of them.
use Rattle.std.proofs.Common.{◌≡◌, ℕ, ◌<◌, ◌≤◌, Bool, true, false, cond, if◌then◌else◌, nat_eq, refl, sym, ap, ◌∙◌, subst, List, [], ◌∷◌, ◌++◌, length, slice_get, position, All, Option, None, Some, option_map, unwrap_or, is_some, Result, Ok, Err, OnErr, MatchBool, arith, inl, inr, length-append}
use Rattle.std.specs.Prelude.{IfOk}
use Rattle.std.specs.Option.{ok_or}
use Rattle.std.specs.List.{IsDistinct}
use Rattle.std.specs.Map.{values_of, lookup, set_value}
use Rattle.std.proofs.lemmas.Bool.{cases_Bool, false≢true}
use Rattle.std.specs.Cmp.Lexicographic.{nat_list_eq_equiv, same_text}
use Rattle.std.proofs.lemmas.List.{map-append}
use Rattle.std.proofs.lemmas.List.Elements.{All-append, All-cons, All-nil}
use Rattle.std.proofs.lemmas.Map.{keys-set_value, length-set_value, lookup-set_value}
use Rattle.std.proofs.lemmas.Map.Views.{All-values-set_value}
use Rattle.indexmap.specs.IndexMap.{IndexMap, insert_entry, set_value_at}
use Rattle.indexmap.proofs.MapLemmas.{Found-position, Missing-position, insert_entry-first, some_index}
use Rattle.indexmap.proofs.CallerLemmas.{insert_entry-new}
use lib.Pointwise.{pointwise}
use Rattle.point_core.specs.declared.entry.Entry.{Entry}
use Rattle.point_core.specs.Agreement.{AgreesAbove}
use Rattle.point_core.specs.Named.{same_name}
use Rattle.point_core.specs.declared.refusal.Refusal.{Refusal}
use Rattle.resv_core.specs.Resv.{Reservation, IsTable, empty}
use Rattle.point_core.specs.declared.context.TheConstants.{CONTEXTS}
use Rattle.point_core.specs.declared.limits.TheConstants.{BUFFERS}
use Rattle.dmabuf_core.specs.Buffers.{Buffer, AreBuffers, OnlyChanges, names_of, table_at, has_buffer, entries_of}

-- one buffer has another table
pub AreBuffers-set_value : (name : List ℕ) (bs : List Buffer) (w : Reservation) → AreBuffers bs → IsTable w → AreBuffers (set_value (pointwise nat_eq name) bs w)
AreBuffers-set_value name bs w kept table = record {
  distinct = subst (IsDistinct (pointwise nat_eq)) (sym (keys-set_value (pointwise nat_eq name) bs w)) kept.distinct;
  within = rw (length-set_value (pointwise nat_eq name) bs w) kept.within;
  tables = All-values-set_value (pointwise nat_eq name) IsTable bs w kept.tables table;
}

-- writing the value that is there changes nothing
pub set_value-same : {K X : Type 0} (test : K → Bool) (es : List (K × X)) (w : X) → lookup test es ≡ Some w → set_value test es w ≡ es
set_value-same test [] w is = refl
set_value-same test (e ∷ es) w is = elim (cases_Bool (test e.0)) [
  | inl here ↦
      let found : e.1 ≡ w = cc here in
      ap (λ b. cond b ((e.0, w) ∷ es) (e ∷ set_value test es w)) here ∙ ap (λ v. (e.0, v) ∷ es) (sym found)
  | inr there ↦
      let found : lookup test es ≡ Some w = cc there in
      ap (λ b. cond b ((e.0, w) ∷ es) (e ∷ set_value test es w)) there ∙ ap (λ rest. e ∷ rest) (set_value-same test es w found)
]

-- a new buffer goes last
pub AreBuffers-append : (bs : List Buffer) (name : List ℕ) (w : Reservation) → AreBuffers bs → IsTable w → length bs < BUFFERS → IsDistinct (pointwise nat_eq) (names_of (bs ++ (name, w) ∷ [])) → AreBuffers (bs ++ (name, w) ∷ [])
AreBuffers-append bs name w kept table room distinct = record {
  distinct = distinct;
  within = omega (arith, length-append bs ((name, w) ∷ []));
  tables = subst (λ ws. All IsTable ws) (sym (map-append (λ (b : Buffer). b.1) bs ((name, w) ∷ []))) (All-append IsTable (values_of bs) (w ∷ []) kept.tables (All-cons IsTable w [] table (All-nil IsTable)));
}

pub IsTable-empty : IsTable empty
IsTable-empty = record { places = omega arith; contexts = All-nil (λ e. (1 ≤ e.point.ctx) × (e.point.ctx ≤ CONTEXTS)) }

is_none : {T : Type 0} (o : Option T) → is_some o ≡ false → o ≡ None
is_none None h = refl
is_none (Some x) h = absurd (false≢true (sym h))

-- a new name goes last
pub insert_entry-last : {S : Type 0} (m : IndexMap (List ℕ) Reservation S) (bs : List Buffer) (name : List ℕ) (w : Reservation) → m.entries ≡ bs → has_buffer bs name ≡ false → insert_entry (pointwise nat_eq) m.entries name w ≡ bs ++ (name, w) ∷ []
insert_entry-last m bs name w is new =
    insert_entry-new (pointwise nat_eq) m name w (is_none (table_at m.entries name) (ap (λ es. has_buffer es name) is ∙ new))
    ∙ ap (λ es. es ++ (name, w) ∷ []) is

-- the entries of a buffer, if it exists, and once its table is written
pub entries_of-found : (bs : List Buffer) (name : List ℕ) (t : Reservation) → table_at bs name ≡ Some t → entries_of bs name ≡ t.entries
entries_of-found bs name t found = ap (λ o. unwrap_or (option_map (λ (r : Reservation). r.entries) o) []) found

table_at-set_value : (bs : List Buffer) (name : List ℕ) (old w : Reservation) → table_at bs name ≡ Some old → table_at (set_value (pointwise nat_eq name) bs w) name ≡ Some w
table_at-set_value bs name old w found =
    lookup-set_value nat_list_eq_equiv (pointwise nat_eq name) (nat_list_eq_equiv.congr name) name w bs (ap is_some found)
    ∙ ap (λ b. cond b (Some w) (table_at bs name)) (nat_list_eq_equiv.refl name)

-- entries that agree with a table and the added ones agree once the table is written
pub AgreesAbove-written : {reach : List ℕ} (added : List Entry) (bs after : List Buffer) (name : List ℕ) (old new : Reservation) → table_at bs name ≡ Some old → after ≡ set_value (pointwise nat_eq name) bs new → AgreesAbove reach new.entries (old.entries ++ added) → AgreesAbove reach (entries_of after name) (entries_of bs name ++ added)
AgreesAbove-written {reach} added bs after name old new found written agrees =
    let now = ap (λ es. entries_of es name) written ∙ entries_of-found (set_value (pointwise nat_eq name) bs new) name new (table_at-set_value bs name old new found) in
    let before = entries_of-found bs name old found in
    rw (now, before) agrees

pub OnErr-always : {T E : Type 0} (r : Result T E) (P : Type 0) → P → OnErr r P
OnErr-always (Ok v) P h = tt
OnErr-always (Err e) P h = h

pub OnErr-weaker : {T E : Type 0} (r : Result T E) (P Q : Type 0) → (P → Q) → OnErr r P → OnErr r Q
OnErr-weaker (Ok v) P Q f h = tt
OnErr-weaker (Err e) P Q f h = f h

pub MatchBool-true : (b : Bool) (P Q : Type 0) → b ≡ true → P → MatchBool b P Q
MatchBool-true b P Q is h = subst (λ p. MatchBool p P Q) (sym is) h

-- a name that is there keeps its place
insert_entry-present : (name : List ℕ) (w : Reservation) (bs : List Buffer) → has_buffer bs name ≡ true → insert_entry same_name bs name w ≡ set_value (same_name name) bs w
insert_entry-present name w [] has = absurd (false≢true has)
insert_entry-present name w (b ∷ bs) has = elim (cases_Bool (same_name name b.0)) [
  | inl is ↦
      ap (λ t. if t then (b.0, w) ∷ bs else b ∷ insert_entry same_name bs name w) is
      ∙ sym (ap (λ t. cond t ((b.0, w) ∷ bs) (b ∷ set_value (same_name name) bs w)) is)
  | inr not ↦
      let there : has_buffer bs name ≡ true = sym (ap (λ t. is_some (cond t (Some b.1) (table_at bs name))) not) ∙ has in
      ap (λ t. if t then (b.0, w) ∷ bs else b ∷ insert_entry same_name bs name w) not
      ∙ ap (λ rest. b ∷ rest) (insert_entry-present name w bs there)
      ∙ sym (ap (λ t. cond t ((b.0, w) ∷ bs) (b ∷ set_value (same_name name) bs w)) not)
]

-- what the index of a name says
module _ (bs : List Buffer) (name : List ℕ) (e : Refusal) where
  pub index-found : (index : Option ℕ) → index ≡ position (same_name name) (names_of bs) → IfOk (ok_or index e) (λ i. Some i ≡ position (same_name name) (names_of bs))
  index-found None is = tt
  index-found (Some i) is = is

  pub index-within : (index : Option ℕ) → index ≡ position (same_name name) (names_of bs) → IfOk (ok_or index e) (λ i. i < length bs)
  index-within None is = tt
  index-within (Some i) is = (Found-position (same_name name) bs i (sym is)).within

  pub index-table : (index : Option ℕ) → index ≡ position (same_name name) (names_of bs) → IfOk (ok_or index e) (λ i. slice_get (values_of bs) i ≡ table_at bs name)
  index-table None is = tt
  index-table (Some i) is = sym (Found-position (same_name name) bs i (sym is)).value

  pub index-absent : (index : Option ℕ) → index ≡ position (same_name name) (names_of bs) → OnErr (ok_or index e) (table_at bs name ≡ None)
  index-absent None is = (Missing-position (same_name name) bs (sym is)).value
  index-absent (Some i) is = tt

module _ (bs : List Buffer) (name : List ℕ) where
  -- the table at the index of the name is written
  module _ (i : ℕ) (is : Some i ≡ position (same_name name) (names_of bs)) where
    pub set_value-index : (w : Reservation) → set_value_at bs i w ≡ set_value (same_name name) bs w
    set_value-index w =
        sym (insert_entry-first same_name name w bs i (Found-position (same_name name) bs i (sym is)).first)
        ∙ insert_entry-present name w bs (sym (some_index (same_name name) bs) ∙ ap is_some (sym is))

    pub AreBuffers-written : (w : Reservation) → AreBuffers bs → IsTable w → AreBuffers (set_value_at bs i w)
    AreBuffers-written w kept table = subst AreBuffers (sym (set_value-index w)) (AreBuffers-set_value name bs w kept table)

    pub unwritten : (old w : Reservation) → table_at bs name ≡ Some old → w ≡ old → set_value_at bs i w ≡ bs
    unwritten old w found same = set_value-index w ∙ set_value-same (same_name name) bs w (found ∙ ap Some (sym same))

    pub OnlyChanges-written : (old w : Reservation) → table_at bs name ≡ Some old → OnlyChanges name bs (set_value_at bs i w)
    OnlyChanges-written old w found = record {
      names = ap names_of (set_value-index w) ∙ keys-set_value (same_name name) bs w;
      others = λ other apart.
          ap (λ es. table_at es other) (set_value-index w)
          ∙ lookup-set_value nat_list_eq_equiv (same_name name) (nat_list_eq_equiv.congr name) other w bs (ap is_some found)
          ∙ elim (cases_Bool (same_name name other)) [
            | inl is ↦ absurd (apart (sym (same_text name other (sym is))))
            | inr not ↦ ap (λ b. cond b (Some w) (table_at bs other)) not
          ];
    }

    pub entries_of-written : (old w : Reservation) → table_at bs name ≡ Some old → entries_of (set_value_at bs i w) name ≡ w.entries
    entries_of-written old w found =
        ap (λ es. entries_of es name) (set_value-index w)
        ∙ entries_of-found (set_value (same_name name) bs w) name w (table_at-set_value bs name old w found)
