use Rattle.std.proofs.Common.{◌≡◌}
use Rattle.thread_tests.proofs.tests.closing.look_on.Given as goal

abbrev pub invariant-loop : goal.invariant-loop
invariant-loop g l = l.seat.words ≡ l.words
