use Rattle.std.proofs.Common.{◌≡◌}
use Rattle.syncfile_core.specs.Running.{HasRunOut}
use Rattle.syncfile_core.proofs.sync_file.SyncFile.wait_for.Given as goal

abbrev pub invariant-loop : goal.invariant-loop
invariant-loop l = HasRunOut l.self l.counter l.initial.seat l.seat × (l.seat.words ≡ l.words) × (l.seat.words ≡ l.initial.seat.words) × (l.seat.parts ≡ l.initial.seat.parts)
