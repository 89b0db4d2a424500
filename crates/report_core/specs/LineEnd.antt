use Rattle.std.specs.Prelude.{ℕ, List, [], ◌∷◌, ◌++◌}

-- the end of a line of output: a space before each word, and a line feed
abbrev pub line_end : List (List ℕ) → List ℕ
line_end [] = 10 ∷ []
line_end (word ∷ words) = 32 ∷ word ++ line_end words
