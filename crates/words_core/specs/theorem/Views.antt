-- All seats together, lost ones among them: each has a view with its steps. What the rule says of them.
use Rattle.std.specs.Prelude.{◌≡◌, ℕ, ◌+◌, ◌<◌, ◌≤◌, List, Some, slice_get, slice_index}
use Rattle.words_core.specs.declared.trace.View.{View}
use Rattle.words_core.specs.theorem.Layout.{value_word, mark_word}
use Rattle.words_core.specs.theorem.Trace.{on, raised, added, wins_of, shuts_of}

-- at most one seat has won the word w, and once
pub record HasOneWinner (w : ℕ) (views : List View) : Type 0 where
  pub once : (i : ℕ) (v : View) → slice_get views i ≡ Some v → wins_of w v.trace ≤ 1
  pub no_other : (i j : ℕ) (v other : View) → slice_get views i ≡ Some v → slice_get views j ≡ Some other →
      0 < wins_of w v.trace → 0 < wins_of w other.trace → i ≡ j

-- the context's value and its mark are what this seat has made of them: the value is the sum of its additions, and it has set the
-- mark at most once, to the value and 1
pub record IsDrivenBy (ctx : ℕ) (words : List ℕ) (v : View) : Type 0 where
  pub value : slice_index words (value_word ctx) ≡ added (on (value_word ctx) v.trace)
  pub once : shuts_of (mark_word ctx) v.trace ≤ 1
  pub unset : shuts_of (mark_word ctx) v.trace ≡ 0 → slice_index words (mark_word ctx) ≡ 0
  pub set : 0 < shuts_of (mark_word ctx) v.trace → slice_index words (mark_word ctx) ≡ slice_index words (value_word ctx) + 1

-- the seat has neither added to the context's value nor set its mark
abbrev pub HasNotDriven : ℕ → View → Type 0
HasNotDriven ctx v = (added (on (value_word ctx) v.trace) ≡ 0) × (shuts_of (mark_word ctx) v.trace ≡ 0)

-- no seat has raised the word w past n; and n is 0 or some seat has raised the word to n
pub record IsGreatestRaise (w n : ℕ) (views : List View) : Type 0 where
  pub none_higher : (i : ℕ) (v : View) → slice_get views i ≡ Some v → raised (on w v.trace) ≤ n
  pub by_a_seat : 0 < n → (i : ℕ) × ((v : View) × (slice_get views i ≡ Some v) × (raised (on w v.trace) ≡ n))
