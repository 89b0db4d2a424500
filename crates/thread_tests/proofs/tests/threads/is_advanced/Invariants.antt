use Rattle.std.proofs.Common.{◌≡◌}
use Rattle.thread_tests.proofs.tests.threads.is_advanced.Given as goal

abbrev pub invariant-loop : goal.invariant-loop
invariant-loop l = (l.looking.words ≡ l.initial.looking.words) × (l.looking.parts ≡ l.initial.looking.parts)
