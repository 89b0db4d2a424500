-- A driver, as contracts see it.
use Rattle.std.specs.Prelude.{ℕ}
use Rattle.words_core.specs.theorem.Seat.{SeatModel}

-- its seat, the context that it has claimed, and the context's value
pub record DriverModel : Type 0 where
  pub seat : SeatModel
  pub ctx : ℕ
  pub value : ℕ
