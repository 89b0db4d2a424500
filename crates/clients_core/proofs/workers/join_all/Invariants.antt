use Rattle.std.proofs.Common.{◌≡◌, ◌+◌, ◌*◌, All, IfErr, length, vec_len}
use Rattle.std.specs.Vec.Iter.{into_iter_items, into_iter_len}
use Rattle.clients_core.specs.Clients.{IsClientRefusal}
use Rattle.clients_core.specs.Working.{IsWorkerOf}
use Rattle.clients_core.proofs.Working.{AreJoined}
use Rattle.clients_core.proofs.workers.join_all.Given as goal

abbrev pub invariant-loop-worker : goal.invariant-loop-worker
invariant-loop-worker g l = record {
  words : l.all.words ≡ l.words;
  parts : l.all.parts + 2 * into_iter_len l.worker-iterator ≡ l.initial.all.parts + 2 * vec_len l.fn.workers;
  items : length (into_iter_items l.worker-iterator) ≡ into_iter_len l.worker-iterator;
  answer : IfErr l.answer IsClientRefusal;
  promises : All (IsWorkerOf l.words) (into_iter_items l.worker-iterator);
  joined : AreJoined g.T.SharedTable.puts g.T.SharedTable.exports (into_iter_items l.worker-iterator) l.fn.workers.items l.initial.all l.all l.answer;
}
