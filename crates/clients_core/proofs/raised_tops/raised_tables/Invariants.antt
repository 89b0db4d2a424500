use Rattle.std.proofs.Common.{◌≡◌, ℕ, map, vec_len, vec_capacity}
use Rattle.std.specs.List.{range_with_len}
use Rattle.words_core.specs.theorem.Seat.{raised_to}
use Rattle.resv_core.specs.Resv.{rows_of}
use Rattle.resv_core.specs.Shared.{HasStepped}
use Rattle.clients_core.specs.Board.{raised_in}
use Rattle.clients_core.proofs.raised_tops.raised_tables.Given as goal

abbrev pub invariant-loop-buffer : goal.invariant-loop-buffer
invariant-loop-buffer l = record {
  stepped : HasStepped l.initial.all l.all;
  same : (w : ℕ) → raised_to l.all w ≡ raised_to l.initial.all w;
  tables : l.tables.items ≡ map (λ b. rows_of (raised_in l.words l.initial.all b) l.reach) (range_with_len 0 l.buffer);
  len : vec_len l.tables ≡ l.buffer;
  places : vec_capacity l.tables ≡ l.words.buffers;
}
