use Rattle.std.proofs.Common.{ap, sym, subst}
use Rattle.std.proofs.lemmas.Result.{err_from_is_err_and}
use Rattle.script_core.specs.Answering.{AnswersLines}
use Rattle.script_core.proofs.Progress.{Grows-kept, Progress-flushed, Progress-unflushed}
use Rattle.script_core.proofs.answers.Answers.finish.Goals as goal

pub returns-in_err-flush-clause-err : goal.returns-in_err-flush-clause-err
returns-in_err-flush-clause-err g c =
    let q = err_from_is_err_and c.from_residual-in_err-flush.result c.from_residual-in_err-flush.ensures.1 in
    rw q.1 (λ done start p. Progress-unflushed done _ _ _ start _ _ (c.in_ok-write.ensures.ok done start p) c.in_err-flush.ensures.bytes)

pub returns-clause-ok : goal.returns-clause-ok
returns-clause-ok g c done start p =
    subst (λ t. AnswersLines done t start (g.W.Write.contents c.flush.new.writer)) (ap (λ s. s.totals) (sym c.self.view_is)) (Progress-flushed done _ _ _ start _ _ (c.in_ok-write.ensures.ok done start p) c.in_ok-write.ensures.none c.in_ok-flush.ensures.bytes)

pub returns-in_err-flush-clause-grows : goal.returns-in_err-flush-clause-grows
returns-in_err-flush-clause-grows g c = Grows-kept _ _ _ c.in_ok-write.ensures.grows c.in_err-flush.ensures.bytes

pub returns-clause-grows : goal.returns-clause-grows
returns-clause-grows g c = Grows-kept _ _ _ c.in_ok-write.ensures.grows c.in_ok-flush.ensures.bytes
