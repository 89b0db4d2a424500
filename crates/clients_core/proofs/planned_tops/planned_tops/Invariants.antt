use Rattle.std.proofs.Common.{take}
use Rattle.point_core.specs.Agreement.{HasContexts}
use Rattle.resv_core.specs.Settled.{all_puts}
use Rattle.resv_core.specs.Tops.{AreTops}
use Rattle.clients_core.proofs.planned_tops.planned_tops.Given as goal

abbrev pub invariant-loop-plan : goal.invariant-loop-plan
invariant-loop-plan l = record {
  tops : AreTops l.tops l.reach (all_puts l.buffer (take l.plan-index l.plans));
  contexts : HasContexts (all_puts l.buffer (take l.plan-index l.plans));
}
