-- Rows that are stored into a caller's array.
use Rattle.std.specs.Prelude.{List, [], ◌∷◌}

-- the second list, with the first written over its start as far as there is room
abbrev pub over : {A : Type 0} → List A → List A → List A
over [] old = old
over (x ∷ new) [] = []
over (x ∷ new) (y ∷ old) = x ∷ over new old
