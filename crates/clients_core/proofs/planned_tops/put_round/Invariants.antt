use Rattle.std.proofs.Common.{take}
use Rattle.resv_core.specs.Rounds.{round_of}
use Rattle.resv_core.specs.Settled.{puts_of}
use Rattle.clients_core.specs.Board.{TakesIn}
use Rattle.clients_core.proofs.planned_tops.put_round.Given as goal

abbrev pub invariant-loop-act : goal.invariant-loop-act
invariant-loop-act l = TakesIn (puts_of l.buffer (round_of (take l.act-index l.acts) l.number)) l.initial.tops l.tops
