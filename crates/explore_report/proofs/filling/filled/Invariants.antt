use Rattle.std.proofs.Common.{◌≡◌, ◌++◌, drop}
use Rattle.explore_report.specs.Filling.{filled, filled_from}
use Rattle.explore_report.proofs.filling.filled.Given as goal

abbrev pub invariant-loop-byte : goal.invariant-loop-byte
invariant-loop-byte l = l.text.items ++ filled_from l.round l.held (drop l.byte-index l.line) ≡ filled l.round l.line
