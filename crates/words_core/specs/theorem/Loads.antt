-- What a seat has seen of the clocks of all contexts, and a load of each.
use Rattle.std.specs.Prelude.{◌≡◌, ℕ, zero, suc, ◌+◌, ◌-◌, ◌≤◌, ◌==◌, true, nat_le, if◌then◌else◌, List, [], ◌∷◌, ◌++◌, map}
use Rattle.point_core.specs.declared.clocks.Clock.{Clock}
use Rattle.point_core.specs.Agreement.{contexts}
use Rattle.point_core.specs.Clocks.{clock_of, open_clock, new_clock, reached_by, reach_of_clocks}
use Rattle.point_core.specs.Reach.{IsAtLeast}
use Rattle.words_core.specs.declared.trace.Step.{Step}
use Rattle.words_core.specs.theorem.Layout.{value_word, mark_word}
use Rattle.words_core.specs.theorem.Seat.{SeatModel, seen, with_steps}
use Rattle.words_core.specs.theorem.Trace.{load}

-- the clock of a context whose mark and value were seen: a mark above 0 is the value at its closing, and 1
abbrev pub clock_marked : ℕ → ℕ → Clock
clock_marked mark value = if mark == 0 then open_clock value else clock_of (mark - 1) true

-- what a seat has seen of the clock of a context of its words
abbrev pub clock_seen : SeatModel → ℕ → Clock
clock_seen seat ctx = clock_marked (seen seat (mark_word ctx)) (seen seat (value_word ctx))

-- the clock of any context: new for one past the words
abbrev pub known_clock : SeatModel → ℕ → Clock
known_clock seat ctx = if nat_le ctx seat.words.contexts then clock_seen seat ctx else new_clock

-- the clocks of all contexts
abbrev pub clocks_seen : SeatModel → List Clock
clocks_seen seat = map (known_clock seat) contexts

-- the value that these clocks reach
abbrev pub value_seen : SeatModel → ℕ → ℕ
value_seen seat ctx = reached_by (known_clock seat ctx)

abbrev pub reach_seen : SeatModel → List ℕ
reach_seen seat = map (value_seen seat) contexts

-- the loads that find the clock of a context: one of its mark, and if that is 0 one of its value
abbrev pub loads_at : ℕ → Clock → List Step
loads_at ctx clock =
    if clock.closed then load (mark_word ctx) (clock.value + 1) ∷ []
    else load (mark_word ctx) 0 ∷ load (value_word ctx) clock.value ∷ []

-- the loads that find the clocks of the first n contexts, by rising number
abbrev pub loads_of : (ℕ → Clock) → ℕ → List Step
loads_of clock zero = []
loads_of clock (suc n) = loads_of clock n ++ loads_at (suc n) (clock (suc n))

-- A context that was seen closed has the same clock now, and the value of one that is closed now is no less than any
-- that was seen before
pub record KeepsClosing (before after : SeatModel) (ctx : ℕ) : Type 0 where
  pub stays : (clock_seen before ctx).closed ≡ true → clock_seen after ctx ≡ clock_seen before ctx
  pub last : (clock_seen after ctx).closed ≡ true → seen before (value_word ctx) ≤ (clock_seen after ctx).value

-- The seat's trace has one more load of each context of the words, by rising number, and nothing else. The reach is the
-- reach of the clocks that were found, which the seat has now seen, and no less than what it had seen before. Each
-- closed context stays as it is
pub record HasLoadedAll (before after : SeatModel) (reach : List ℕ) : Type 0 where
  pub entered : after ≡ with_steps before (loads_of (clock_seen after) before.words.contexts)
  pub found : reach ≡ reach_seen after
  pub later : IsAtLeast reach (reach_seen before)
  pub closings : (ctx : ℕ) → 1 ≤ ctx → ctx ≤ before.words.contexts → KeepsClosing before after ctx

-- all clocks were loaded, and these were found
pub record HasLoadedClocks (before after : SeatModel) (clocks : List Clock) : Type 0 where
  pub all : HasLoadedAll before after (reach_of_clocks clocks)
  pub found : clocks ≡ clocks_seen after
