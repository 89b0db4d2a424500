use Rattle.std.proofs.Common.{ℕ, List, ◌++◌, take}
use Rattle.point_core.specs.declared.entry.Entry.{Entry}
use Rattle.point_core.specs.Agreement.{as_entries, HasContexts}
use Rattle.point_core.specs.Latest.{IsLatest}
use Rattle.point_core.proofs.latest_points.LatestPoints.put_all.Given as goal

abbrev pub invariant-loop-point : goal.invariant-loop-point
invariant-loop-point l = record {
  latest : (reach : List ℕ) (es : List Entry) → IsLatest l.initial.self reach es 0 → IsLatest l.self reach (es ++ as_entries (take l.point-index l.points)) 0;
  contexts : HasContexts (as_entries (take l.point-index l.points));
}
