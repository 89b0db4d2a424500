use Rattle.std.proofs.Common.{◌≡◌, map, vec_len, vec_capacity}
use Rattle.std.specs.List.{range_with_len}
use Rattle.point_core.specs.Reach.{value_at}
use Rattle.clients_core.proofs.gathered_values.listed.Given as goal

abbrev pub invariant-loop-index : goal.invariant-loop-index
invariant-loop-index l = record {
  values : l.values.items ≡ map (value_at l.reach) (range_with_len 1 l.index);
  len : vec_len l.values ≡ l.index;
  places : vec_capacity l.values ≡ l.count;
}
