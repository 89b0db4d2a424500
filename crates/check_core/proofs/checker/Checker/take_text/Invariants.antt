use Rattle.check_core.proofs.Throughout.{HasCheckedTo}
use Rattle.check_core.proofs.checker.Checker.take_text.Given as goal

abbrev pub invariant-loop-number : goal.invariant-loop-number
invariant-loop-number g l = HasCheckedTo l.text l.rest l.number l.self
