use Rattle.std.proofs.Common.{◌≡◌, List, ◌++◌}
use Rattle.std.specs.Map.{keys_of}
use Rattle.trace_core.specs.History.{Step, IsLedgerOf}
use Rattle.trace_core.specs.Pending.{pending_among}
use Rattle.trace_core.proofs.pending.pending_of.Given as goal

abbrev pub invariant-loop-key : goal.invariant-loop-key
invariant-loop-key l =
    (goal.iterator-loop-key).can_next l.key-iterator ×
    (goal.iterator-loop-key).is_finite l.key-iterator ×
    ((steps : List Step) → IsLedgerOf l.fn.ledger steps →
    l.pending.items ++ pending_among steps (keys_of l.key-iterator) ≡ pending_among steps (keys_of l.fn.ledger.lives.by_key.entries))
