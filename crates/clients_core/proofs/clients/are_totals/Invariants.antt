use Rattle.std.proofs.Common.{◌≡◌, map, take}
use Rattle.std.specs.List.{range_with_len}
use Rattle.point_core.specs.Reach.{value_at}
use Rattle.resv_core.specs.Settled.{values_of}
use Rattle.clients_core.proofs.clients.are_totals.Given as goal

abbrev pub invariant-loop-index : goal.invariant-loop-index
invariant-loop-index l = map (value_at l.reach) (range_with_len 1 l.index) ≡ values_of (take l.index l.plans)
