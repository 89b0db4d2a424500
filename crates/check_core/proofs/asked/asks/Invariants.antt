use Rattle.std.proofs.Common.{◌≡◌, length}
use Rattle.line_core.specs.Script.{lines_of}
use Rattle.check_core.specs.Expected.{expected_after, is_asked}
use Rattle.check_core.proofs.asked.asks.Given as goal

abbrev pub invariant-loop-line : goal.invariant-loop-line
invariant-loop-line l = is_asked (expected_after (lines_of l.rest)) ≡ is_asked (expected_after (lines_of l.below))

abbrev pub decreases-loop-line : goal.decreases-loop-line
decreases-loop-line l = length l.rest
