use Rattle.std.proofs.Common.{◌≡◌, ◌+◌, ◌++◌, All, List, length, take}
use Rattle.resv_core.specs.declared.plan.Act.{Act}
use Rattle.resv_core.specs.Rounds.{round_of}
use Rattle.resv_core.specs.Settled.{IsWithin, increments_of}
use Rattle.clients_core.specs.Acting.{KnowPuts, HaveActed, client_of}
use Rattle.clients_core.specs.Clients.{IsSinglePart, IsDriving}
use Rattle.clients_core.proofs.client.act_round.Given as goal

abbrev pub invariant-loop-index : goal.invariant-loop-index
invariant-loop-index g l = record {
  seat : IsSinglePart l.shared.words.now l.seat;
  driving : IsDriving l.shared.words.now l.driver;
  value : l.driver.value ≡ l.initial.driver.value + increments_of (take l.index (round_of l.acts l.number));
  buffers : length l.own ≡ l.shared.words.now.buffers;
  acted : (done : List Act) → KnowPuts l.shared.words.now.contexts l.initial.own done → All (IsWithin l.shared.words.now.contexts l.shared.words.now.buffers) done → HaveActed (g.T.SharedTable.puts l.shared.table.now) (g.T.SharedTable.exports l.shared.table.now) done (take l.index (round_of l.acts l.number)) (client_of l.initial.driver l.initial.seat) (client_of l.driver l.seat);
  known : (done : List Act) → KnowPuts l.shared.words.now.contexts l.initial.own done → KnowPuts l.shared.words.now.contexts l.own (done ++ take l.index (round_of l.acts l.number));
}
