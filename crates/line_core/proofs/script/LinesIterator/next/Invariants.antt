use Rattle.std.proofs.Common.{◌≡◌}
use Rattle.line_core.specs.Lines.{lines_left, turns_left}
use Rattle.line_core.proofs.script.LinesIterator.next.Given as goal

abbrev pub decreases-loop-self : goal.decreases-loop-self
decreases-loop-self l = turns_left l.self

abbrev pub invariant-loop-self : goal.invariant-loop-self
invariant-loop-self l = lines_left l.self ≡ lines_left l.initial.self
