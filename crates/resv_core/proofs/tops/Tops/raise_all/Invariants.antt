use Rattle.std.proofs.Common.{length}
use Rattle.resv_core.proofs.Raising.{HasRaised}
use Rattle.resv_core.proofs.tops.Tops.raise_all.Given as goal

abbrev pub invariant-loop-point : goal.invariant-loop-point
invariant-loop-point l = HasRaised l.usage l.initial.self l.self l.points l.rest

abbrev pub decreases-loop-point : goal.decreases-loop-point
decreases-loop-point l = length l.rest
