use Rattle.std.proofs.Common.{◌≡◌}
use Rattle.thread_tests.proofs.tests.seats.drive_on.Given as goal

abbrev pub invariant-loop : goal.invariant-loop
invariant-loop g l = l.driver.seat.words ≡ l.words
