use Rattle.std.proofs.lemmas.Result.{err_from_is_err_and}
use Rattle.report_core.proofs.Fronts.{StartsWith-trans}
use Rattle.report_core.proofs.settled.push_table.Goals as goal

pub returns-in_err-push_each-clause-err : goal.returns-in_err-push_each-clause-err
returns-in_err-push_each-clause-err c =
    let begins = StartsWith-trans c.push_each.new.out.items c.push_row.new.out.items c.args.out.now.items _ c.in_err-push_each.ensures.err.1 c.in_ok-push_row.ensures.ok in
    let p = err_from_is_err_and c.from_residual-in_err-push_each.result c.from_residual-in_err-push_each.ensures.1 in
    rw (p.1, p.2) (c.in_err-push_each.ensures.err.0, begins)
