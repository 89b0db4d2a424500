use Rattle.std.proofs.Common.{◌≡◌, take, get_or, subst, sym, arith}
use Rattle.std.specs.List.{flat_map, enumerate_from}
use Rattle.std.proofs.lemmas.Result.{err_from_is_err_and}
use Rattle.report_core.specs.Settled.{table_text}
use Rattle.report_core.proofs.Fronts.{StartsWith-trans}
use Rattle.report_core.proofs.Numbered.{numbered-next}
use Rattle.report_core.proofs.settled.push_tables.Goals as goal

pub returns-in_err-push_table-clause-err : goal.returns-in_err-push_table-clause-err
returns-in_err-push_table-clause-err c =
    let so_far = flat_map table_text (enumerate_from 0 (take c.loop-buffer.buffer c.args.tables.now)) in
    let begins = StartsWith-trans c.push_table.new.out.items c.loop-buffer.out.items c.args.out.now.items so_far c.in_err-push_table.ensures.err.1 c.loop-buffer.invariant in
    let p = err_from_is_err_and c.from_residual.result c.from_residual.ensures.1 in
    rw (p.1, p.2) (c.in_err-push_table.ensures.err.0, begins)

pub loop-buffer-preserved : goal.loop-buffer-preserved
loop-buffer-preserved c =
    let buffer = c.loop-buffer.buffer in
    let tables = c.args.tables.now in
    let rows = c.as_slice.result.now in
    let is = subst (λ items. items ≡ get_or tables buffer items) (sym c.as_slice.ensures) c.index-tables-buffer.is in
    numbered-next table_text c.args.out.now.items c.loop-buffer.out.items c.push_table.new.out.items 0 buffer buffer tables rows c.loop-buffer-test.true (omega arith) is c.loop-buffer.invariant c.in_ok-push_table.ensures.ok
