-- The answer stands, whatever becomes of its explanation.
use Rattle.std.proofs.Common.{[], ◌++◌, inr, Some, refl}
use Rattle.std.proofs.lemmas.Result.{err_from_is_err_and}
use Rattle.line_core.specs.Script.{answered}
use Rattle.script_core.proofs.Progress.{Grows-trans}
use Rattle.reason_core.proofs.Notes.{Notes-written, answered-written}
use Rattle.reason_core.proofs.Written.{answered-prefix}
use Rattle.reason_core.proofs.explainer.Explainer.explain_body.Goals as goal

pub returns-in_err-enter-clause-err : goal.returns-in_err-enter-clause-err
returns-in_err-enter-clause-err g c =
    let q = err_from_is_err_and c.from_residual-in_err-enter.result c.from_residual-in_err-enter.ensures.1 in
    rw q.1 (λ done start p. answered-prefix _ _ start _ (c.in_ok-refused.ensures.ok done start p))

pub returns-in_err-write-clause-err : goal.returns-in_err-write-clause-err
returns-in_err-write-clause-err g c =
    let q = err_from_is_err_and c.from_residual-in_err-write.result c.from_residual-in_err-write.ensures.1 in
    rw q.1 (λ done start p.
    let lines = done ++ answered c.args.line.now.number (Some c.args.body) [] in
    c.in_err-write.ensures.err lines start (c.in_ok-refused.ensures.ok done start p))

pub returns-in_err-report-clause-err : goal.returns-in_err-report-clause-err
returns-in_err-report-clause-err g c =
    let q = err_from_is_err_and c.from_residual-in_err-report.result c.from_residual-in_err-report.ensures.1 in
    rw q.1 (λ done start p.
    let lines = done ++ answered c.args.line.now.number (Some c.args.body) [] in
    answered-prefix lines _ start _ (c.in_ok-write.ensures.ok lines start (c.in_ok-refused.ensures.ok done start p)))

pub returns-in_err-write-clause-grows : goal.returns-in_err-write-clause-grows
returns-in_err-write-clause-grows g c = Grows-trans _ _ _ c.in_ok-refused.ensures.grows c.in_err-write.ensures.grows

pub returns-in_err-report-clause-grows : goal.returns-in_err-report-clause-grows
returns-in_err-report-clause-grows g c = Grows-trans _ _ _ c.in_ok-refused.ensures.grows c.in_ok-write.ensures.grows

pub returns-clause-grows : goal.returns-clause-grows
returns-clause-grows g c = Grows-trans _ _ _ c.in_ok-refused.ensures.grows c.in_ok-write.ensures.grows

pub returns-in_err-report-clause-follows : goal.returns-in_err-report-clause-follows
returns-in_err-report-clause-follows g c =
    inr (
      Notes-written _ c.args.line.now.number _ _ c.in_err-report.ensures.noted,
      record {
        said = c.args.body;
        is = refl;
        written = λ done start p.
            let lines = done ++ answered c.args.line.now.number (Some c.args.body) [] in
            answered-written lines _ start _ (c.in_ok-write.ensures.ok lines start (c.in_ok-refused.ensures.ok done start p)) c.in_ok-write.ensures.none;
      },
    )

pub returns-clause-follows : goal.returns-clause-follows
returns-clause-follows g c =
    inr (
      Notes-written _ c.args.line.now.number _ _ c.in_ok-report.ensures.noted,
      record {
        said = c.args.body;
        is = refl;
        written = λ done start p.
            let lines = done ++ answered c.args.line.now.number (Some c.args.body) [] in
            answered-written lines _ start _ (c.in_ok-write.ensures.ok lines start (c.in_ok-refused.ensures.ok done start p)) c.in_ok-write.ensures.none;
      },
    )
