use Rattle.std.proofs.Common.{◌≡◌, drop}
use Rattle.explore_report.specs.Lines.{texts_of}
use Rattle.explore_report.specs.Turns.{end_from}
use Rattle.explore_report.proofs.unrolling.end_of.Given as goal

abbrev pub invariant-loop-place : goal.invariant-loop-place
invariant-loop-place l = end_from (texts_of l.lines) l.place l.depth (drop l.place l.turns) ≡ end_from (texts_of l.lines) 0 0 l.turns
