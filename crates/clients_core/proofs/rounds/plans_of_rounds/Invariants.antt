use Rattle.std.proofs.Common.{◌≡◌, map, vec_len, vec_capacity}
use Rattle.std.specs.List.{range_with_len}
use Rattle.clients_core.specs.Rounds.{client_rounds}
use Rattle.clients_core.proofs.rounds.plans_of_rounds.Given as goal

abbrev pub invariant-loop-index : goal.invariant-loop-index
invariant-loop-index l = record {
  plans : l.plans.items ≡ map (client_rounds l.clients l.rounds) (range_with_len 1 l.index);
  len : vec_len l.plans ≡ l.index;
  places : vec_capacity l.plans ≡ l.clients;
}
