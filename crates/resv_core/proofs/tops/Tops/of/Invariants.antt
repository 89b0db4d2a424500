use Rattle.std.proofs.Common.{take}
use Rattle.point_core.specs.Agreement.{HasContexts}
use Rattle.resv_core.specs.Tops.{AreTops}
use Rattle.resv_core.proofs.tops.Tops.of.Given as goal

abbrev pub invariant-loop-entry : goal.invariant-loop-entry
invariant-loop-entry l = record {
  tops : AreTops l.tops l.reach (take l.entry-index l.entries);
  contexts : HasContexts (take l.entry-index l.entries);
}
