use Rattle.std.proofs.Common.{◌≡◌}
use Rattle.thread_tests.proofs.tests.threads.raise_on.Given as goal

abbrev pub invariant-loop-round : goal.invariant-loop-round
invariant-loop-round l = l.seat.words ≡ l.words
