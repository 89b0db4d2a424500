-- The words of a note.
use Rattle.std.specs.Prelude.{ℕ, List, length, take, drop, position, unwrap_or}
use Rattle.line_core.specs.Fronts.{drop_spaces}
use Rattle.line_core.specs.Words.{is_space}

-- the number of bytes before the first space
abbrev pub word_length : List ℕ → ℕ
word_length note = unwrap_or (position is_space note) (length note)

abbrev pub first_word : List ℕ → List ℕ
first_word note = take (word_length note) note

-- what follows the first word, without the spaces between
abbrev pub words_after : List ℕ → List ℕ
words_after note = drop_spaces (drop (word_length note) note)
