use Rattle.std.proofs.Common.{◌≡◌, [], All, vec_len, vec_capacity}
use Rattle.clients_core.specs.declared.own_puts.OwnPuts.{OwnPuts}
use Rattle.clients_core.specs.OwnPuts.{AreOwnPuts}
use Rattle.clients_core.proofs.own_puts.no_puts.Given as goal

abbrev pub invariant-loop : goal.invariant-loop
invariant-loop l = record {
  len : vec_len l.own ≡ l.counter;
  places : vec_capacity l.own ≡ l.buffers;
  none : All (λ (puts : OwnPuts). AreOwnPuts l.contexts puts []) l.own.items;
}
