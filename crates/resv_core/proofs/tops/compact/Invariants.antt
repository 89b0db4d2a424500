use Rattle.std.proofs.Common.{◌≡◌, ◌*◌, ◌≤◌, vec_len, vec_capacity}
use Rattle.resv_core.specs.declared.tops.TheConstants.{USAGES}
use Rattle.resv_core.proofs.Compaction.{IsCompacted}
use Rattle.resv_core.proofs.tops.compact.Given as goal

abbrev pub invariant-loop-index : goal.invariant-loop-index
invariant-loop-index l = record {
  kept : IsCompacted l.tops l.reach l.index l.entries.items;
  few : vec_len l.entries ≤ USAGES * l.index;
  places : vec_capacity l.entries ≡ vec_capacity l.fn.entries;
}
