-- Steps of reading: what the bytes begin or end with, and the bytes after it or before it.
use Rattle.std.specs.Prelude.{ℕ, ◌-◌, if◌then◌else◌, List, [], ◌∷◌, length, take, drop, Option, None, Some, option_map, codes}
use Rattle.std.specs.List.{prefix_len}
use Rattle.std.specs.Str.{bytes_eq}
use Rattle.trace_core.specs.Runs.{is_blank}

-- what follows the text, where the bytes begin with it
unfoldable pub after : List ℕ → List ℕ → Option (List ℕ)
after bytes text = if bytes_eq (take (length text) bytes) text then Some (drop (length text) bytes) else None

-- the bytes before the text, if they end with it
unfoldable pub before : List ℕ → List ℕ → Option (List ℕ)
before bytes text =
    if bytes_eq (drop (length bytes - length text) bytes) text then Some (take (length bytes - length text) bytes) else None

unfoldable pub without_blanks : List ℕ → List ℕ
without_blanks bytes = drop (prefix_len is_blank bytes) bytes

-- what follows one blank or more
unfoldable pub after_blanks : List ℕ → Option (List ℕ)
after_blanks bytes = option_map without_blanks (after bytes (codes " "))

-- the parts round the text, with `x` before the first of them
abbrev pub with_first : ℕ → List ℕ × List ℕ → List ℕ × List ℕ
with_first x parts = (x ∷ parts.0, parts.1)

-- what follows the text here, or else the parts round a later one
abbrev pub here_or : Option (List ℕ) → Option (List ℕ × List ℕ) → Option (List ℕ × List ℕ)
here_or None later = later
here_or (Some rest) later = Some ([], rest)

-- the bytes before the first occurrence of the text, and the bytes after it
unfoldable pub part_at : List ℕ → List ℕ → Option (List ℕ × List ℕ)
part_at text [] = None
part_at text (x ∷ xs) = here_or (after (x ∷ xs) text) (option_map (with_first x) (part_at text xs))
