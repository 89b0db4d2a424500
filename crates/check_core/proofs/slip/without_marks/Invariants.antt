use Rattle.std.proofs.Common.{◌≡◌, length}
use Rattle.check_core.specs.Slips.{drop_marks}
use Rattle.check_core.proofs.slip.without_marks.Given as goal

abbrev pub invariant-loop-byte : goal.invariant-loop-byte
invariant-loop-byte l = drop_marks l.rest ≡ drop_marks l.line

abbrev pub decreases-loop-byte : goal.decreases-loop-byte
decreases-loop-byte l = length l.rest
