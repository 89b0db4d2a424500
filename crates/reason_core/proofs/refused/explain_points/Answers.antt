use Rattle.std.proofs.Common.{Ok}
use Rattle.std.proofs.lemmas.Result.{err_from_is_err_and}
use Rattle.reason_core.proofs.Notes.{Notes-none, Notes-trans}
use Rattle.reason_core.proofs.refused.explain_points.Goals as goal

pub loop-point-init : goal.loop-point-init
loop-point-init g c = Notes-none (Ok tt) c.args.place.now.line (g.N.Write.contents c.args.notes.now)

pub loop-point-preserved : goal.loop-point-preserved
loop-point-preserved g c = Notes-trans _ _ c.args.place.now.line _ _ _ c.loop-point.invariant c.in_ok-explain_if.ensures.noted

pub returns-in_err-explain_if-clause-noted : goal.returns-in_err-explain_if-clause-noted
returns-in_err-explain_if-clause-noted g c =
    let q = err_from_is_err_and c.from_residual.result c.from_residual.ensures.1 in
    rw (q.1, q.2) (Notes-trans _ _ c.args.place.now.line _ _ _ c.loop-point.invariant c.in_err-explain_if.ensures.noted)
