use Rattle.std.proofs.Common.{◌≡◌}
use Rattle.uses.proofs.example.running.drive.Given as goal

abbrev pub invariant-loop : goal.invariant-loop
invariant-loop l = (l.driver.seat.words ≡ l.words) × (l.driver.value ≡ l.counter)
