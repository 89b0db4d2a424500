use Rattle.std.proofs.Common.{◌≤◌, decimal, length, length-append, ap, ◌∙◌, arith}
use Rattle.std.proofs.lemmas.Fmt.{length-decimal-le}
use Rattle.report_core.specs.declared.rows.TheConstants.{COUNT_WIDTH}
use Rattle.report_core.proofs.rows.file_row.Goals as goal

pub returns-clause-width : goal.returns-clause-width
returns-clause-width c few =
    let fits : length (decimal c.args.file.now.count) ≤ COUNT_WIDTH = length-decimal-le 3 c.args.file.now.count (omega arith) few (omega arith) in
    let whole = ap length c.in_ok-push_to.ensures.ok ∙ length-append c.args.out.now.items c.put.new.self in
    omega (arith, whole, c.put.ensures.len, c.put_number_right.ensures.len fits, c.pad.ensures.len, c.put_right.ensures.len, c.put_names.ensures.len, c.status_text.ensures.len)
