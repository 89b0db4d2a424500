use Rattle.std.proofs.Common.{◌≡◌, ℕ, map}
use Rattle.point_core.specs.Agreement.{HasContexts}
use Rattle.point_core.specs.declared.entry.Usage.TheVariants.{Bookkeep}
use Rattle.words_core.specs.theorem.Seat.{raised_to}
use Rattle.resv_core.specs.Shared.{HasStepped}
use Rattle.resv_core.specs.Tops.{AreTops}
use Rattle.clients_core.specs.Board.{places_to, raised_entry}
use Rattle.clients_core.proofs.raised_tops.raised_tops.Given as goal

abbrev pub invariant-loop-index : goal.invariant-loop-index
invariant-loop-index l = record {
  stepped : HasStepped l.initial.all l.all;
  same : (w : ℕ) → raised_to l.all w ≡ raised_to l.initial.all w;
  tops : AreTops l.tops l.reach (map (raised_entry l.words l.initial.all l.buffer) (places_to Bookkeep l.index));
  contexts : HasContexts (map (raised_entry l.words l.initial.all l.buffer) (places_to Bookkeep l.index));
}
