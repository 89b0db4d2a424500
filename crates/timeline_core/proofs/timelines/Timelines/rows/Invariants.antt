use Rattle.std.proofs.Common.{◌≡◌, length, take, vec_len, vec_capacity}
use Rattle.timeline_core.specs.Timeline.{rows_of}
use Rattle.timeline_core.specs.Stored.{timelines_of}
use Rattle.timeline_core.proofs.timelines.Timelines.rows.Given as goal

abbrev pub invariant-loop-index : goal.invariant-loop-index
invariant-loop-index l = record {
  so_far : l.rows.items ≡ rows_of (take l.index (timelines_of l.self-inside.names.keys l.self-inside.clocks));
  len : vec_len l.rows ≡ l.index;
  capacity : vec_capacity l.rows ≡ length l.names;
}
