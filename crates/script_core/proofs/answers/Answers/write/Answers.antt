use Rattle.std.proofs.Common.{[], sym, subst, append-nil}
use Rattle.std.proofs.lemmas.Result.{err_from_is_err_and}
use Rattle.script_core.specs.Answering.{HasAnswered}
use Rattle.script_core.proofs.Progress.{Grows-front, Progress-front}
use Rattle.script_core.proofs.answers.Answers.write.Goals as goal

pub returns-in_err-write_out-clause-err : goal.returns-in_err-write_out-clause-err
returns-in_err-write_out-clause-err g c =
    let q = err_from_is_err_and c.from_residual.result c.from_residual.ensures.1 in
    rw q.1 (λ done start p.
    Progress-front done done [] _ _ _ start _ _ (subst (λ s. HasAnswered done s start (g.W.Write.contents c.args.writer.now)) (sym c.self.view_is) p) (sym (append-nil done)) c.in_err-write_out.ensures.err)

pub returns-in_err-write_out-clause-grows : goal.returns-in_err-write_out-clause-grows
returns-in_err-write_out-clause-grows g c = Grows-front _ _ _ c.in_err-write_out.ensures.err

pub returns-clause-grows : goal.returns-clause-grows
returns-clause-grows g c =
    let written = c.in_ok-write_out.ensures.ok in
    (written.0, written.2)
