-- Columns: a text, and spaces up to the column's width. 32 is the space.
use Rattle.std.specs.Prelude.{ℕ, ◌-◌, List, [], ◌∷◌, ◌++◌, length, replicate}

abbrev pub spaces : ℕ → List ℕ
spaces count = replicate count 32

-- the text, left-aligned in a column
abbrev pub left : ℕ → List ℕ → List ℕ
left width text = text ++ spaces (width - length text)

-- a column, and a space after it
abbrev pub column : ℕ → List ℕ → List ℕ
column width text = left width text ++ 32 ∷ []

-- the text, right-aligned in a column
abbrev pub right : ℕ → List ℕ → List ℕ
right width text = spaces (width - length text) ++ text
