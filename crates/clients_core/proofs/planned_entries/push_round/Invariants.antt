use Rattle.std.proofs.Common.{◌≡◌, ◌++◌, take}
use Rattle.resv_core.specs.Rounds.{round_of}
use Rattle.resv_core.specs.Settled.{puts_of}
use Rattle.clients_core.proofs.planned_entries.push_round.Given as goal

abbrev pub invariant-loop-act : goal.invariant-loop-act
invariant-loop-act l = l.entries.items ≡ l.fn.entries.items ++ puts_of l.buffer (round_of (take l.act-index l.acts) l.number)
