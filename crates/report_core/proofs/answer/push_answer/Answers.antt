use Rattle.std.proofs.lemmas.Result.{err_from_is_err_and}
use Rattle.report_core.proofs.Fronts.{StartsWith-trans}
use Rattle.report_core.proofs.answer.push_answer.Goals as goal

pub returns-in_err-push_rows-clause-err : goal.returns-in_err-push_rows-clause-err
returns-in_err-push_rows-clause-err c =
    let begins = StartsWith-trans c.push_rows.new.out.items c.push_to.new.out.items c.args.out.now.items c.put_first_line.new.text c.in_err-push_rows.ensures.err.1 c.in_ok-push_to.ensures.ok in
    let p = err_from_is_err_and c.from_residual-in_err-push_rows.result c.from_residual-in_err-push_rows.ensures.1 in
    rw (p.1, p.2) (c.in_err-push_rows.ensures.err.0, begins)
