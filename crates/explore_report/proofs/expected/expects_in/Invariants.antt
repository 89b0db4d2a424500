use Rattle.std.proofs.Common.{◌≡◌, ◌++◌, drop}
use Rattle.explore_report.specs.Expected.{expects_in}
use Rattle.explore_report.specs.Lines.{texts_of}
use Rattle.explore_report.proofs.expected.expects_in.Given as goal

abbrev pub invariant-loop-index : goal.invariant-loop-index
invariant-loop-index l = l.all.items ++ expects_in (texts_of l.lines) (drop l.index l.rows) ≡ expects_in (texts_of l.lines) l.rows
