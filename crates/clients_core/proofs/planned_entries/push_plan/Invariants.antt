use Rattle.std.proofs.Common.{◌≡◌, ◌++◌}
use Rattle.resv_core.specs.Rounds.{rounds_of}
use Rattle.resv_core.specs.Settled.{puts_of}
use Rattle.clients_core.proofs.planned_entries.push_plan.Given as goal

abbrev pub invariant-loop-index : goal.invariant-loop-index
invariant-loop-index l = l.entries.items ≡ l.fn.entries.items ++ puts_of l.buffer (rounds_of l.round.acts.now l.index)
