use Rattle.std.proofs.Common.{◌≡◌, map, vec_len, vec_capacity}
use Rattle.std.specs.List.{range_with_len}
use Rattle.resv_core.specs.Resv.{rows_of}
use Rattle.resv_core.specs.Settled.{all_puts}
use Rattle.clients_core.proofs.locked_table.LockedTableSharedTable.settle.Given as goal

abbrev pub invariant-loop-index : goal.invariant-loop-index
invariant-loop-index g l = record {
  tables : l.tables.items ≡ map (λ b. rows_of (all_puts b l.fn.plans) l.initial.reach) (range_with_len 0 l.index);
  len : vec_len l.tables ≡ l.index;
  places : vec_capacity l.tables ≡ vec_len l.self-inside.buffers;
}
