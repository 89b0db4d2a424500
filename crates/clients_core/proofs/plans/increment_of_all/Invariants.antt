use Rattle.std.proofs.Common.{◌≡◌, ◌^◌, ◌<◌, take}
use Rattle.resv_core.specs.Settled.{increments_of}
use Rattle.clients_core.proofs.plans.increment_of_all.Given as goal

abbrev pub invariant-loop-act : goal.invariant-loop-act
invariant-loop-act l = (l.total ≡ increments_of (take l.act-index l.acts)) × (l.total < 2 ^ 64)
