-- Look-up by name: the element of a list with a given name, in order of making.
use Rattle.std.specs.Prelude.{◌≡◌, ℕ, Bool, not, nat_eq, List, map, filter, find, Option}
use Rattle.std.specs.List.{list_any, IsDistinct}
use Rattle.std.specs.Map.{keys_of, values_of}
use lib.Pointwise.{pointwise}

-- both names have the same bytes
abbrev pub same_name : List ℕ → List ℕ → Bool
same_name = pointwise nat_eq

-- whether x has that name
abbrev pub is_named : {X : Type 0} → (X → List ℕ) → List ℕ → X → Bool
is_named name_of name x = same_name (name_of x) name

-- whether an element has that name
abbrev pub has_named : {X : Type 0} → (X → List ℕ) → List X → List ℕ → Bool
has_named name_of xs name = list_any (is_named name_of name) xs

-- the first element with that name
abbrev pub named : {X : Type 0} → (X → List ℕ) → List X → List ℕ → Option X
named name_of xs name = find (is_named name_of name) xs

-- all elements but those with that name
abbrev pub without_named : {X : Type 0} → (X → List ℕ) → List X → List ℕ → List X
without_named name_of xs name = filter (λ x. not (is_named name_of name x)) xs

-- no name comes twice
abbrev pub HasDistinctNames : {X : Type 0} → (X → List ℕ) → List X → Type 0
HasDistinctNames name_of xs = IsDistinct same_name (map name_of xs)

-- the things that a map's entries hold, in their order
abbrev pub things_in : {K X R : Type 0} → (X → R) → List (K × X) → List R
things_in thing es = map thing (values_of es)

-- each thing is kept under its own name
abbrev pub IsKeyed : {X R : Type 0} → (R → List ℕ) → (X → R) → List (List ℕ × X) → Type 0
IsKeyed name_of thing es = keys_of es ≡ map name_of (things_in thing es)
