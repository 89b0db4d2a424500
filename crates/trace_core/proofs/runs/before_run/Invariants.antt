use Rattle.std.proofs.Common.{◌≡◌, ◌+◌, ◌≤◌, length, take}
use Rattle.std.specs.List.{suffix_len}
use Rattle.trace_core.specs.Runs.{is_of}
use Rattle.trace_core.proofs.runs.before_run.Given as goal

abbrev pub invariant-loop-count : goal.invariant-loop-count
invariant-loop-count l = (l.count ≤ length l.bytes) × (l.count + suffix_len (is_of l.class) l.bytes ≡ length l.bytes + suffix_len (is_of l.class) (take l.count l.bytes))

abbrev pub decreases-loop-count : goal.decreases-loop-count
decreases-loop-count l = l.count
