use Rattle.std.proofs.Common.{Ok}
use Rattle.reason_core.specs.Notes.{Notes}
use Rattle.reason_core.proofs.refused.explain_points.Given as goal

abbrev pub invariant-loop-point : goal.invariant-loop-point
invariant-loop-point g l = Notes (Ok tt) l.fn.place.line (g.N.Write.contents l.fn.notes) (g.N.Write.contents l.notes)
