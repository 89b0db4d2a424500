use Rattle.std.proofs.Common.{◌≡◌, ◌++◌, length}
use Rattle.line_core.specs.Script.{lines_of}
use Rattle.check_core.specs.Asked.{asked_in}
use Rattle.check_core.proofs.asked.push_asked.Given as goal

abbrev pub invariant-loop-line : goal.invariant-loop-line
invariant-loop-line l = l.asked.items ++ asked_in l.all (lines_of l.rest) ≡ l.fn.asked.items ++ asked_in l.all (lines_of l.script)

abbrev pub decreases-loop-line : goal.decreases-loop-line
decreases-loop-line l = length l.rest
