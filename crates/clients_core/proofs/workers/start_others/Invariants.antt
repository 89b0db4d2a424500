use Rattle.std.proofs.Common.{◌≡◌, ◌+◌, ◌*◌, All, length, vec_len, vec_capacity}
use Rattle.clients_core.specs.Working.{AreWorkers, IsWorkerOf}
use Rattle.clients_core.proofs.workers.start_others.Given as goal

abbrev pub invariant-loop-index : goal.invariant-loop-index
invariant-loop-index g l = record {
  words : l.all.words ≡ l.shared.words.now;
  parts : l.all.parts + 2 * l.index ≡ l.initial.all.parts + 2;
  len : vec_len l.workers + 1 ≡ l.index;
  places : vec_capacity l.workers ≡ length l.plans;
  promises : All (IsWorkerOf l.shared.words.now) l.workers.items;
  trace : l.all.trace ≡ l.initial.all.trace;
  plans : AreWorkers l.shared.table.now l.plans 1 l.workers.items;
}
