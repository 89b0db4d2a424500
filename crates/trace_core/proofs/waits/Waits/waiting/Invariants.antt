use Rattle.std.proofs.Common.{◌≡◌, ℕ, ◌<◌, true, is_some}
use Rattle.std.specs.Map.{lookup}
use Rattle.trace_core.specs.Waits.{wait_key}
use Rattle.trace_core.proofs.Waiting.{same_wait}
use Rattle.trace_core.proofs.waits.Waits.waiting.Given as goal

abbrev pub invariant-loop-nth : goal.invariant-loop-nth
invariant-loop-nth l =
    (k : ℕ) → k < l.nth → is_some (lookup (same_wait (wait_key l.event.pid l.event.key k)) l.self.open.entries) ≡ true
