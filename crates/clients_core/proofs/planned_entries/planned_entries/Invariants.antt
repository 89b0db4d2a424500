use Rattle.std.proofs.Common.{◌≡◌, take}
use Rattle.resv_core.specs.Settled.{all_puts}
use Rattle.clients_core.proofs.planned_entries.planned_entries.Given as goal

abbrev pub invariant-loop-plan : goal.invariant-loop-plan
invariant-loop-plan l = l.entries.items ≡ all_puts l.buffer (take l.plan-index l.plans)
