use Rattle.std.proofs.Common.{◌≡◌, ◌+◌, [], length}
use Rattle.resv_core.specs.Rounds.{rounds_of}
use Rattle.resv_core.specs.Settled.{increments_of}
use Rattle.clients_core.specs.Acting.{KnowPuts, HaveActed, client_of}
use Rattle.clients_core.specs.Clients.{IsSinglePart, IsDriving}
use Rattle.clients_core.proofs.client.act_rounds.Given as goal

abbrev pub invariant-loop-index : goal.invariant-loop-index
invariant-loop-index g l = record {
  seat : IsSinglePart l.shared.words.now l.seat;
  driving : IsDriving l.shared.words.now l.driver;
  value : l.driver.value ≡ l.initial.driver.value + increments_of (rounds_of l.round.acts.now l.index);
  buffers : length l.own ≡ l.shared.words.now.buffers;
  acted : HaveActed (g.T.SharedTable.puts l.shared.table.now) (g.T.SharedTable.exports l.shared.table.now) [] (rounds_of l.round.acts.now l.index) (client_of l.initial.driver l.initial.seat) (client_of l.driver l.seat);
  known : KnowPuts l.shared.words.now.contexts l.own (rounds_of l.round.acts.now l.index);
}
