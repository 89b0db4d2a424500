use Rattle.std.proofs.Common.{◌≡◌, ◌≤◌, take}
use Rattle.check_core.specs.Update.{written_count}
use Rattle.check_core.proofs.updates.written_count.Given as goal

abbrev pub invariant-loop-update : goal.invariant-loop-update
invariant-loop-update l = (l.written ≡ written_count (take l.update-index l.updates)) × (l.written ≤ l.update-index)
