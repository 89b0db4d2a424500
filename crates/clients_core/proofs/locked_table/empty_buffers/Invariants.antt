use Rattle.std.proofs.Common.{◌≡◌, vec_len, vec_capacity}
use Rattle.clients_core.proofs.locked_table.empty_buffers.Given as goal

abbrev pub invariant-loop : goal.invariant-loop
invariant-loop l = record {
  len : vec_len l.buffers ≡ l.counter;
  places : vec_capacity l.buffers ≡ l.count;
}
