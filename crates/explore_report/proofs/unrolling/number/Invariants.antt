use Rattle.std.proofs.Common.{◌≡◌, drop}
use Rattle.explore_report.specs.Rounds.{number_from}
use Rattle.explore_report.proofs.unrolling.number.Given as goal

abbrev pub invariant-loop-byte : goal.invariant-loop-byte
invariant-loop-byte l = number_from l.number (drop l.byte-index l.digits) ≡ number_from 0 l.digits
