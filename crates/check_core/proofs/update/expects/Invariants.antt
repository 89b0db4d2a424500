use Rattle.std.proofs.Common.{◌≡◌, length}
use Rattle.check_core.specs.Asked.{expects}
use Rattle.check_core.proofs.update.expects.Given as goal

abbrev pub invariant-loop-line : goal.invariant-loop-line
invariant-loop-line l = expects l.rest ≡ expects l.script

abbrev pub decreases-loop-line : goal.decreases-loop-line
decreases-loop-line l = length l.rest
