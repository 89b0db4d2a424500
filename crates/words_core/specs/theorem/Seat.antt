-- A seat, as contracts see it.
use Rattle.std.specs.Prelude.{◌≡◌, ℕ, ◌≤◌, ◌+◌, ◌-◌, List, [], ◌∷◌, ◌++◌}
use Rattle.words_core.specs.declared.trace.Step.{Step}
use Rattle.words_core.specs.theorem.Layout.{value_word}
use Rattle.words_core.specs.theorem.Trace.{is_test, total, on, greatest, raised, added, shown}
use Rattle.words_core.specs.theorem.Words.{WordsModel}

-- the set of words, its parts, the steps that its parent knew when it was parted, and its own steps
pub record SeatModel : Type 0 where
  pub words : WordsModel
  pub parts : ℕ
  pub start : List Step
  pub trace : List Step

-- the greatest value that a seat has seen of the word w, or 0
abbrev pub seen : SeatModel → ℕ → ℕ
seen seat w = greatest (on w (seat.start ++ seat.trace))

-- the sum of what a seat has added to the value of a context
abbrev pub added_to : SeatModel → ℕ → ℕ
added_to seat ctx = added (on (value_word ctx) seat.trace)

-- the greatest point that a seat has raised the word w to, or 0
abbrev pub raised_to : SeatModel → ℕ → ℕ
raised_to seat w = raised (on w seat.trace)

-- how often a seat knows that the word w was won or found set
abbrev pub tests_of : SeatModel → ℕ → ℕ
tests_of seat w = total is_test (on w (seat.start ++ seat.trace))

-- the seat with one more step
abbrev pub with_step : SeatModel → Step → SeatModel
with_step seat s = record seat { trace = seat.trace ++ s ∷ [] }

-- the seat with more steps
abbrev pub with_steps : SeatModel → List Step → SeatModel
with_steps seat steps = record seat { trace = seat.trace ++ steps }

-- one more step: the word w of the board was read, and v found. It is no less than any value that the seat had seen there
-- or raised the word to, and the greatest that it has seen there now
pub record HasFound (w v : ℕ) (before after : SeatModel) : Type 0 where
  pub entered : after ≡ with_step before (shown w v)
  pub later : seen before w ≤ v
  pub raises : raised_to before w ≤ v
  pub seen : seen after w ≡ v

-- the seat that is left when n parts go
abbrev pub without_parts : SeatModel → ℕ → SeatModel
without_parts seat n = record seat { parts = seat.parts - n }

-- the seat to which they go
abbrev pub parted : SeatModel → ℕ → SeatModel
parted seat n = record { words = seat.words; parts = n; start = seat.start ++ seat.trace; trace = [] }

-- two seats of the same words joined
abbrev pub both_of : SeatModel → SeatModel → SeatModel
both_of seat other = record {
  words = seat.words;
  parts = seat.parts + other.parts;
  start = seat.start ++ other.start;
  trace = seat.trace ++ other.trace;
}
