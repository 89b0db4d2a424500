-- What a call that signals a shared fence did.
use Rattle.std.specs.Prelude.{◌≡◌, ℕ, ◌≤◌, ◌<◌, List, [], ◌∷◌, ◌++◌}
use Rattle.point_core.specs.declared.clocks.Clock.{Clock}
use Rattle.point_core.specs.Clocks.{open_clock, reached_by}
use Rattle.point_core.specs.declared.entry.Point.{Point}
use Rattle.words_core.specs.declared.trace.Step.{Step}
use Rattle.words_core.specs.theorem.Layout.{flag_word}
use Rattle.words_core.specs.theorem.Loads.{clock_seen, loads_at, KeepsClosing}
use Rattle.words_core.specs.theorem.Seat.{SeatModel, with_step, with_steps}
use Rattle.words_core.specs.theorem.Won.{WonModel}
use Rattle.fence_core.specs.SharedFence.{SharedFenceModel}
use Rattle.fence_core.specs.declared.shared_fence.Signal.{Signal}
use Rattle.fence_core.specs.declared.shared_fence.Signal.TheVariants.{NotYet, First, Already}

abbrev pub IfNotYet : Signal → (ℕ → ℕ → Type 0) → Type 0
IfNotYet (NotYet ctx value) P = P ctx value
IfNotYet (First token) P = Unit {0}
IfNotYet Already P = Unit {0}

abbrev pub IfFirst : Signal → (WonModel → Type 0) → Type 0
IfFirst (NotYet ctx value) P = Unit {0}
IfFirst (First token) P = P token
IfFirst Already P = Unit {0}

abbrev pub IfAlready : Signal → Type 0 → Type 0
IfAlready (NotYet ctx value) P = Unit {0}
IfAlready (First token) P = Unit {0}
IfAlready Already P = P

-- the clock of a point's context was loaded, no less than the seat had seen, and had reached the point. A closing stays
pub record HasFound (p : Point) (before after : SeatModel) : Type 0 where
  pub clock : Clock
  pub entered : after ≡ with_steps before (loads_at p.ctx clock)
  pub found : clock ≡ clock_seen after p.ctx
  pub later : reached_by (clock_seen before p.ctx) ≤ reached_by clock
  pub closing : KeepsClosing before after p.ctx
  pub reached : p.value ≤ reached_by clock

-- the clock of each point was loaded and had reached it, one after another, and no other step was made
abbrev pub HaveFound : List Point → SeatModel → SeatModel → Type 0
HaveFound [] before after = after ≡ before
HaveFound (p ∷ ps) before after = (seat : SeatModel) × HasFound p before seat × HaveFound ps seat after

-- the first points were found reached, and the next, of this context, was not: the context was open at this value, which is
-- no less than what the seat had seen
pub record IsPendingAt (points : List Point) (before after : SeatModel) (ctx value : ℕ) : Type 0 where
  pub reached : List Point
  pub point : Point
  pub rest : List Point
  pub points_are : points ≡ reached ++ point ∷ rest
  pub seat : SeatModel
  pub found : HaveFound reached before seat
  pub is_of : point.ctx ≡ ctx
  pub is_pending : value < point.value
  pub later : reached_by (clock_seen seat ctx) ≤ value
  pub entered : after ≡ with_steps seat (loads_at ctx (open_clock value))

-- every point was found reached, and then one test-and-set of the flag was entered
pub record SetsFlag (f : SharedFenceModel) (before after : SeatModel) (ended : ℕ → Step) : Type 0 where
  pub seat : SeatModel
  pub found : HaveFound f.points before seat
  pub entered : after ≡ with_step seat (ended (flag_word f.words f.flag))
