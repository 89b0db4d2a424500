use Rattle.std.proofs.Common.{◌≡◌, ◌<◌, ℕ}
use Rattle.point_core.specs.Agreement.{AgreesAbove}
use Rattle.words_core.specs.theorem.Seat.{raised_to}
use Rattle.resv_core.specs.Settled.{all_puts}
use Rattle.resv_core.specs.Shared.{HasStepped}
use Rattle.clients_core.specs.Board.{raised_in}
use Rattle.clients_core.proofs.raised_tops.are_as_planned.Given as goal

abbrev pub invariant-loop-buffer : goal.invariant-loop-buffer
invariant-loop-buffer l = record {
  stepped : HasStepped l.initial.all l.all;
  same : (w : ℕ) → raised_to l.all w ≡ raised_to l.initial.all w;
  planned : (b : ℕ) → b < l.buffer → AgreesAbove l.reach (raised_in l.words l.initial.all b) (all_puts b l.plans);
}
