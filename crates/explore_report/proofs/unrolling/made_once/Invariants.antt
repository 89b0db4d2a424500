use Rattle.std.proofs.Common.{◌≡◌, ◌++◌, length}
use Rattle.explore_report.specs.Lines.{texts_of}
use Rattle.explore_report.specs.Turns.{expanded, made_once}
use Rattle.explore_report.proofs.unrolling.made_once.Given as goal

abbrev pub decreases-loop-turn : goal.decreases-loop-turn
decreases-loop-turn l = length l.rest

abbrev pub invariant-loop-turn : goal.invariant-loop-turn
invariant-loop-turn l = l.made.items ++ expanded (texts_of l.lines) 0 l.room l.rest ≡ made_once (texts_of l.lines) l.turns
