use Rattle.std.proofs.Common.{take}
use Rattle.std.specs.List.{flat_map}
use Rattle.std.proofs.lemmas.Result.{err_from_is_err_and}
use Rattle.report_core.proofs.Fronts.{StartsWith-trans}
use Rattle.report_core.proofs.table_item.push_each.Goals as goal

pub returns-in_err-push-clause-err : goal.returns-in_err-push-clause-err
returns-in_err-push-clause-err g c =
    let so_far = flat_map g.T.TableItem.text (take c.loop-item.item-index c.args.items.now) in
    let begins = StartsWith-trans c.push.new.out.items c.loop-item.out.items c.args.out.now.items so_far c.in_err-push.ensures.err.1 c.loop-item.invariant in
    let p = err_from_is_err_and c.from_residual.result c.from_residual.ensures.1 in
    rw (p.1, p.2) (c.in_err-push.ensures.err.0, begins)
