-- Words of a line.
use Rattle.std.specs.Prelude.{ℕ, ◌==◌, Bool, not, List, [], ◌∷◌, length, filter, Option, None, Some, option_map}
use Rattle.std.specs.List.{slice_split}

-- 32 is the space
abbrev pub is_space : ℕ → Bool
is_space b = b == 32

abbrev pub is_word : List ℕ → Bool
is_word bytes = not (length bytes == 0)

-- the runs of bytes other than the space
abbrev pub words_of : List ℕ → List (List ℕ)
words_of line = filter is_word (slice_split is_space line)

abbrev pub are_none : {A : Type 0} → List A → Bool
are_none words = length words == 0

-- the words, if there are exactly that many
abbrev pub one_of : {A : Type 0} → List A → Option A
one_of [] = None
one_of (a ∷ []) = Some a
one_of (a ∷ b ∷ more) = None

abbrev pub two_of : {A : Type 0} → List A → Option (A × A)
two_of [] = None
two_of (a ∷ more) = option_map (λ b. (a, b)) (one_of more)

abbrev pub three_of : {A : Type 0} → List A → Option (A × A × A)
three_of [] = None
three_of (a ∷ more) = option_map (λ w. (a, w.0, w.1)) (two_of more)

abbrev pub four_of : {A : Type 0} → List A → Option (A × A × A × A)
four_of [] = None
four_of (a ∷ more) = option_map (λ w. (a, w.0, w.1, w.2)) (three_of more)
