-- The effect of a call on a shared table on its seat.
use Rattle.std.specs.Prelude.{◌≡◌, ℕ, ◌≤◌, List}
use Rattle.words_core.specs.declared.trace.Step.{Step}
use Rattle.words_core.specs.declared.trace.StepKind.TheVariants.{Load}
use Rattle.words_core.specs.theorem.Layout.{mark_word}
use Rattle.words_core.specs.theorem.Trace.{if_kind, shuts_of, total}
use Rattle.words_core.specs.theorem.Loads.{HasLoadedAll}
use Rattle.words_core.specs.theorem.Seat.{SeatModel, with_steps}

-- it is the seat, with more steps
abbrev pub HasStepped : SeatModel → SeatModel → Type 0
HasStepped before after = (steps : List Step) × (after ≡ with_steps before steps)

-- for a seat with all parts: none of the first contexts was closed
abbrev pub HasClosedNone : ℕ → SeatModel → Type 0
HasClosedNone contexts seat = (ctx : ℕ) → 1 ≤ ctx → ctx ≤ contexts → shuts_of (mark_word ctx) seat.trace ≡ 0

-- 1 for a load of a context's value or mark, and else 0
abbrev pub is_load : Step → ℕ
is_load s = if_kind Load s.kind 1

-- all contexts were loaded once, which gave the reach, and then no other load was made
pub record HasLoadedOnce (reach : List ℕ) (before after : SeatModel) : Type 0 where
  pub seat : SeatModel
  pub loaded : HasLoadedAll before seat reach
  pub steps : List Step
  pub entered : after ≡ with_steps seat steps
  pub none : total is_load steps ≡ 0
