-- Sorted lists, by a number of each element.
use Rattle.std.specs.Prelude.{ℕ, nat_lt, if◌then◌else◌, List, [], ◌∷◌}

module _ {X : Type 0} (number : X → ℕ) where
  -- x, inserted before the first element with a greater number
  abbrev pub put_in : X → List X → List X
  put_in x [] = x ∷ []
  put_in x (y ∷ ys) = if nat_lt (number x) (number y) then x ∷ y ∷ ys else y ∷ put_in x ys

  -- by rising number
  abbrev pub by_number : List X → List X
  by_number [] = []
  by_number (x ∷ xs) = put_in x (by_number xs)
