use Rattle.std.proofs.Common.{◌≡◌, ℕ, ◌<◌, true, get_or}
use Rattle.trace_core.specs.Runs.{is_of}
use Rattle.trace_core.proofs.runs.run.Given as goal

abbrev pub invariant-loop-count : goal.invariant-loop-count
invariant-loop-count l = (k : ℕ) → k < l.count → is_of l.class (get_or l.bytes k 0) ≡ true
