use Rattle.std.proofs.Common.{◌≡◌, ◌++◌, take}
use Rattle.std.specs.List.{filter}
use Rattle.trace_report.specs.Found.{is_hang, is_unknown}
use Rattle.trace_report.proofs.found.split.Given as goal

abbrev pub invariant-loop-fence : goal.invariant-loop-fence
invariant-loop-fence l = record {
  hangs : l.hangs.items ≡ l.initial.hangs.items ++ filter is_hang (take l.fence-index l.pending);
  unknown : l.unknown.items ≡ l.initial.unknown.items ++ filter is_unknown (take l.fence-index l.pending);
}
