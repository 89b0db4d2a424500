-- Things that are looked up by name.
use Rattle.std.proofs.Common.{◌≡◌, ℕ, Bool, true, false, not, ◌||◌, cond, is_some, find, refl, sym, ap, ◌∙◌, subst, List, [], ◌∷◌, ◌++◌, length, map, Option, None, Some, option_map, inl, inr, All}
use Rattle.std.specs.List.{list_any, IsDistinct, AllByRecursion}
use Rattle.std.specs.Map.{keys_of, values_of, lookup, remove_entry}
use Rattle.std.specs.Cmp.Lexicographic.{nat_list_eq_equiv, same_text}
use Rattle.std.proofs.lemmas.Bool.{cases_Bool}
use Rattle.std.proofs.lemmas.List.{map-append, length-map}
use Rattle.std.proofs.lemmas.List.Elements.{All-head, All-tail}
use Rattle.std.proofs.lemmas.Option.{same_Some}
use Rattle.point_core.specs.Named.{same_name, is_named, has_named, named, without_named, things_in, IsKeyed}
use lib.Pointwise.{bytes_decides}

find_by : {X : Type 0} (b : Bool) (x : X) (rest : Option X) (any : Bool) → is_some rest ≡ any → is_some (cond b (Some x) rest) ≡ (b || any)
find_by true x rest any tail = refl
find_by false x rest any tail = tail

pub is_some-find : {X : Type 0} (test : X → Bool) (xs : List X) → is_some (find test xs) ≡ list_any test xs
is_some-find test [] = refl
is_some-find test (x ∷ xs) = find_by (test x) x (find test xs) (list_any test xs) (is_some-find test xs)

found-All : {X : Type 0} (P : X → Type 0) (b : Bool) (x y : X) (rest : Option X) → cond b (Some x) rest ≡ Some y → P x → (rest ≡ Some y → P y) → P y
found-All P true x y rest is here later = subst P (same_Some x y is) here
found-All P false x y rest is here later = later is

-- a property of each element holds for the element that is found
pub find-All : {X : Type 0} (P : X → Type 0) (test : X → Bool) (xs : List X) (x : X) → All P xs → find test xs ≡ Some x → P x
find-All P test [] x all is = absurd (cc)
find-All P test (y ∷ ys) x all is = found-All P (test y) y x (find test ys) is (All-head P y ys all) (λ rest. find-All P test ys x (All-tail P y ys all) rest)

find-test : {X : Type 0} (test : X → Bool) (b : Bool) (y x : X) (rest : Option X) → test y ≡ b → (rest ≡ Some x → test x ≡ true) → cond b (Some y) rest ≡ Some x → test x ≡ true
find-test test true y x rest passes later is = ap test (sym (same_Some y x is)) ∙ passes
find-test test false y x rest fails later is = later is

-- the element that is found passes the test
pub find-passes : {X : Type 0} (test : X → Bool) (xs : List X) (x : X) → find test xs ≡ Some x → test x ≡ true
find-passes test [] x is = absurd (cc)
find-passes test (y ∷ ys) x is = find-test test (test y) y x (find test ys) refl (find-passes test ys x) is

kept-if : {X : Type 0} (b rest : Bool) (x : X) (xs less : List X) → (b || rest) ≡ false → (rest ≡ false → less ≡ xs) → cond (not b) (x ∷ less) less ≡ x ∷ xs
kept-if true rest x xs less is same = absurd (cc)
kept-if false rest x xs less is same = ap (λ ys. x ∷ ys) (same is)

module _ {X : Type 0} (name_of : X → List ℕ) where
  pub is_some-named : (xs : List X) (name : List ℕ) → is_some (named name_of xs name) ≡ has_named name_of xs name
  is_some-named xs name = is_some-find (is_named name_of name) xs

  pub has_named-Some : (xs : List X) (name : List ℕ) (x : X) → named name_of xs name ≡ Some x → has_named name_of xs name ≡ true
  has_named-Some xs name x found = sym (is_some-named xs name) ∙ ap is_some found

  pub has_named-None : (xs : List X) (name : List ℕ) → named name_of xs name ≡ None → has_named name_of xs name ≡ false
  has_named-None xs name absent = sym (is_some-named xs name) ∙ ap is_some absent

  -- the element that is found has the name
  pub name_of-named : (xs : List X) (name : List ℕ) (x : X) → named name_of xs name ≡ Some x → name_of x ≡ name
  name_of-named xs name x found = same_text (name_of x) name (sym (find-passes (is_named name_of name) xs x found))

  -- a property of each element holds for the one with that name
  pub named-All : (P : X → Type 0) (xs : List X) (name : List ℕ) (x : X) → All P xs → named name_of xs name ≡ Some x → P x
  named-All P xs name x all is = find-All P (is_named name_of name) xs x all is

  -- the test from the other side, over only the names
  pub has_named-names : (xs : List X) (name : List ℕ) → list_any (same_name name) (map name_of xs) ≡ has_named name_of xs name
  has_named-names [] name = refl
  has_named-names (x ∷ xs) name =
      ap (λ b. b || list_any (same_name name) (map name_of xs)) (nat_list_eq_equiv.symm name (name_of x))
      ∙ ap (λ b. is_named name_of name x || b) (has_named-names xs name)

  -- without an element of that name, nothing is removed
  pub without_named-absent : (xs : List X) (name : List ℕ) → has_named name_of xs name ≡ false → without_named name_of xs name ≡ xs
  without_named-absent [] name absent = refl
  without_named-absent (x ∷ xs) name absent = kept-if (is_named name_of name x) (has_named name_of xs name) x xs (without_named name_of xs name) absent (λ rest. without_named-absent xs name rest)

-- two lists whose elements have equal names, one by one
module _ {X Y : Type 0} (f : X → List ℕ) (g : Y → List ℕ) where
  pub has_named-same_names : (xs : List X) (ys : List Y) (name : List ℕ) → map f xs ≡ map g ys → has_named f xs name ≡ has_named g ys name
  has_named-same_names [] [] name is = refl
  has_named-same_names [] (y ∷ ys) name is = absurd (cc)
  has_named-same_names (x ∷ xs) [] name is = absurd (cc)
  has_named-same_names (x ∷ xs) (y ∷ ys) name is =
      let same : f x ≡ g y = cc in
      let rest : map f xs ≡ map g ys = cc in
      ap (λ n. same_name n name || has_named f xs name) same
      ∙ ap (λ b. same_name (g y) name || b) (has_named-same_names xs ys name rest)

  pub length-same_names : (xs : List X) (ys : List Y) → map f xs ≡ map g ys → length xs ≡ length ys
  length-same_names xs ys is = sym (length-map xs f) ∙ ap length is ∙ length-map ys g

  module _ {Z : Type 0} (h : X → Z) (k : Y → Z) where
    map-cond : (b : Bool) (x : X) (y : Y) (xs : List X) (ys : List Y) → h x ≡ k y → map h xs ≡ map k ys → map h (cond (not b) (x ∷ xs) xs) ≡ map k (cond (not b) (y ∷ ys) ys)
    map-cond true x y xs ys same rest = rest
    map-cond false x y xs ys same rest = cc

    -- the lists still correspond after elements of one name are removed from both
    pub map-without_named : (xs : List X) (ys : List Y) (name : List ℕ) → map f xs ≡ map g ys → map h xs ≡ map k ys → map h (without_named f xs name) ≡ map k (without_named g ys name)
    map-without_named [] [] name is also = refl
    map-without_named [] (y ∷ ys) name is also = absurd (cc)
    map-without_named (x ∷ xs) [] name is also = absurd (cc)
    map-without_named (x ∷ xs) (y ∷ ys) name is also =
        let same : f x ≡ g y = cc in
        let rest : map f xs ≡ map g ys = cc in
        let same' : h x ≡ k y = cc in
        let rest' : map h xs ≡ map k ys = cc in
        ap (λ n. map h (cond (not (same_name n name)) (x ∷ without_named f xs name) (without_named f xs name))) same
        ∙ map-cond (same_name (g y) name) x y (without_named f xs name) (without_named g ys name) same' (map-without_named xs ys name rest rest')

    option_map-cond : (b : Bool) (x : X) (y : Y) (o : Option X) (p : Option Y) → h x ≡ k y → option_map h o ≡ option_map k p → option_map h (cond b (Some x) o) ≡ option_map k (cond b (Some y) p)
    option_map-cond true x y o p same rest = ap Some same
    option_map-cond false x y o p same rest = rest

    -- the elements that are found by one name correspond
    pub option_map-named : (xs : List X) (ys : List Y) (name : List ℕ) → map f xs ≡ map g ys → map h xs ≡ map k ys → option_map h (named f xs name) ≡ option_map k (named g ys name)
    option_map-named [] [] name is also = refl
    option_map-named [] (y ∷ ys) name is also = absurd (cc)
    option_map-named (x ∷ xs) [] name is also = absurd (cc)
    option_map-named (x ∷ xs) (y ∷ ys) name is also =
        let same : f x ≡ g y = cc in
        let rest : map f xs ≡ map g ys = cc in
        let same' : h x ≡ k y = cc in
        let rest' : map h xs ≡ map k ys = cc in
        ap (λ n. option_map h (cond (same_name n name) (Some x) (named f xs name))) same
        ∙ option_map-cond (same_name (g y) name) x y (named f xs name) (named g ys name) same' (option_map-named xs ys name rest rest')

-- things after the entries of a map by name
module _ {X R : Type 0} (name_of : R → List ℕ) (thing : X → R) where
  -- a thing under its own name passes the same test as the name
  is_named-keyed : (name key : List ℕ) (x : X) → key ≡ name_of (thing x) → is_named name_of name (thing x) ≡ same_name name key
  is_named-keyed name key x own = nat_list_eq_equiv.symm (name_of (thing x)) name ∙ ap (same_name name) (sym own)

  look_by : (b : Bool) (x : X) (found : Option R) (rest : Option X) → found ≡ option_map thing rest → cond b (Some (thing x)) found ≡ option_map thing (cond b (Some x) rest)
  look_by true x found rest tail = refl
  look_by false x found rest tail = tail

  -- a thing is found by its name
  pub named-things_in : (name : List ℕ) (es : List (List ℕ × X)) → IsKeyed name_of thing es → named name_of (things_in thing es) name ≡ option_map thing (lookup (same_name name) es)
  named-things_in name [] keyed = refl
  named-things_in name (e ∷ es) keyed =
      let own : e.0 ≡ name_of (thing e.1) = cc in
      let rest : IsKeyed name_of thing es = cc in
      ap (λ b. cond b (Some (thing e.1)) (named name_of (things_in thing es) name)) (is_named-keyed name e.0 e.1 own)
      ∙ look_by (same_name name e.0) e.1 (named name_of (things_in thing es) name) (lookup (same_name name) es) (named-things_in name es rest)

  is_some-thing : (o : Option X) → is_some (option_map thing o) ≡ is_some o
  is_some-thing None = refl
  is_some-thing (Some x) = refl

  pub has_named-things_in : (name : List ℕ) (es : List (List ℕ × X)) → IsKeyed name_of thing es → has_named name_of (things_in thing es) name ≡ is_some (lookup (same_name name) es)
  has_named-things_in name es keyed =
      sym (is_some-named name_of (things_in thing es) name)
      ∙ ap is_some (named-things_in name es keyed)
      ∙ is_some-thing (lookup (same_name name) es)

  pub things_in-append : (es fs : List (List ℕ × X)) → things_in thing (es ++ fs) ≡ things_in thing es ++ things_in thing fs
  things_in-append es fs = ap (map thing) (map-append (λ (e : List ℕ × X). e.1) es fs) ∙ map-append thing (values_of es) (values_of fs)

  pub length-things_in : (es : List (List ℕ × X)) → length (things_in thing es) ≡ length es
  length-things_in es = length-map (values_of es) thing ∙ length-map es (λ (e : List ℕ × X). e.1)

  -- a new thing goes last, under its name
  pub IsKeyed-append : (es : List (List ℕ × X)) (name : List ℕ) (x : X) → IsKeyed name_of thing es → name_of (thing x) ≡ name → IsKeyed name_of thing (es ++ (name, x) ∷ [])
  IsKeyed-append es name x keyed own =
      map-append (λ (e : List ℕ × X). e.0) es ((name, x) ∷ [])
      ∙ ap (λ keys. keys ++ name ∷ []) keyed
      ∙ ap (λ key. map name_of (things_in thing es) ++ key ∷ []) (sym own)
      ∙ sym (map-append name_of (things_in thing es) (thing x ∷ []))
      ∙ ap (map name_of) (sym (things_in-append es ((name, x) ∷ [])))

  keyed_by : (b : Bool) (e : List ℕ × X) (es less : List (List ℕ × X)) → e.0 ≡ name_of (thing e.1) → IsKeyed name_of thing es → IsKeyed name_of thing less → IsKeyed name_of thing (cond b es (e ∷ less))
  keyed_by true e es less own rest tail = rest
  keyed_by false e es less own rest tail = cc

  pub IsKeyed-remove_entry : (test : List ℕ → Bool) (es : List (List ℕ × X)) → IsKeyed name_of thing es → IsKeyed name_of thing (remove_entry test es)
  IsKeyed-remove_entry test [] keyed = refl
  IsKeyed-remove_entry test (e ∷ es) keyed =
      let own : e.0 ≡ name_of (thing e.1) = cc in
      let rest : IsKeyed name_of thing es = cc in
      keyed_by (test e.0) e es (remove_entry test es) own rest (IsKeyed-remove_entry test es rest)

  none_kept : (name : List ℕ) (es : List (List ℕ × X)) → IsKeyed name_of thing es → AllByRecursion (λ key. same_name name key ≡ false) (keys_of es) → without_named name_of (things_in thing es) name ≡ things_in thing es
  none_kept name [] keyed apart = refl
  none_kept name (e ∷ es) keyed apart =
      let own : e.0 ≡ name_of (thing e.1) = cc in
      let rest : IsKeyed name_of thing es = cc in
      ap (λ b. cond (not b) (thing e.1 ∷ without_named name_of (things_in thing es) name) (without_named name_of (things_in thing es) name)) (is_named-keyed name e.0 e.1 own ∙ apart.0)
      ∙ ap (λ xs. thing e.1 ∷ xs) (none_kept name es rest apart.1)

  -- an entry that is removed takes its thing out, and moves no other
  pub things_in-remove_entry : (name : List ℕ) (es : List (List ℕ × X)) → IsKeyed name_of thing es → IsDistinct same_name (keys_of es) → things_in thing (remove_entry (same_name name) es) ≡ without_named name_of (things_in thing es) name
  unfolding IsDistinct
  things_in-remove_entry name [] keyed distinct = refl
  things_in-remove_entry name (e ∷ es) keyed distinct =
      let own : e.0 ≡ name_of (thing e.1) = cc in
      let rest : IsKeyed name_of thing es = cc in
      let tested = is_named-keyed name e.0 e.1 own in
      elim (cases_Bool (same_name name e.0)) [
        | inl is ↦
            ap (λ b. things_in thing (cond b es (e ∷ remove_entry (same_name name) es))) is
            ∙ sym (none_kept name es rest (subst (λ key. AllByRecursion (λ y. same_name key y ≡ false) (keys_of es)) (sym ((bytes_decides name e.0).0 is)) distinct.0))
            ∙ ap (λ b. cond (not b) (thing e.1 ∷ without_named name_of (things_in thing es) name) (without_named name_of (things_in thing es) name)) (sym (tested ∙ is))
        | inr not_is ↦
            ap (λ b. things_in thing (cond b es (e ∷ remove_entry (same_name name) es))) not_is
            ∙ ap (λ xs. thing e.1 ∷ xs) (things_in-remove_entry name es rest distinct.1)
            ∙ ap (λ b. cond (not b) (thing e.1 ∷ without_named name_of (things_in thing es) name) (without_named name_of (things_in thing es) name)) (sym (tested ∙ not_is))
      ]
