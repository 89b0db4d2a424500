use Rattle.std.proofs.Common.{◌≡◌, ◌+◌, ◌≤◌, ◌++◌, map, vec_len, vec_capacity}
use Rattle.std.specs.List.{filter_map, range_with_len}
use Rattle.point_core.specs.Latest.{point_above}
use Rattle.resv_core.specs.Resv.{row_of}
use Rattle.resv_core.proofs.tops.push_rows.Given as goal

abbrev pub invariant-loop-index : goal.invariant-loop-index
invariant-loop-index l = record {
  rows : l.rows.items ≡ l.fn.rows.items ++ map (row_of l.usage) (filter_map (point_above l.latest l.reach) (range_with_len 1 l.index));
  few : vec_len l.rows ≤ vec_len l.fn.rows + l.index;
  places : vec_capacity l.rows ≡ vec_capacity l.fn.rows;
}
