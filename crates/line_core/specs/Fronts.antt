-- Fronts of a line.
use Rattle.std.specs.Prelude.{ℕ, nat_eq, if◌then◌else◌, List, [], ◌∷◌, length, drop, Option, None, Some}
use Rattle.std.specs.List.{starts_with}
use Rattle.line_core.specs.Words.{is_space}

-- without the spaces that the bytes begin with
abbrev pub drop_spaces : List ℕ → List ℕ
drop_spaces [] = []
drop_spaces (b ∷ bytes) = if is_space b then drop_spaces bytes else b ∷ bytes

-- the bytes after that front
abbrev pub strip_prefix : List ℕ → List ℕ → Option (List ℕ)
strip_prefix bytes front = if starts_with nat_eq bytes front then Some (drop (length front) bytes) else None
