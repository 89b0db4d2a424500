use Rattle.std.proofs.Common.{◌∙◌, arith}
use Rattle.desk_core.specs.theorem.Answer.{show_row}
use Rattle.desk_core.proofs.Reporting.{rows-next}
use Rattle.desk_core.proofs.report.show_rows.Goals as goal

pub loop-top-preserved : goal.loop-top-preserved
loop-top-preserved c =
    let pushed = c.push_reserved in
    let rows = rows-next (show_row c.args.timelines.now) c.loop-top.rows.items pushed.new.self.items c.show_row.result c.args.tops.now c.loop-top.top-index c.top-item.result c.loop-top-test.true c.top-item.is c.loop-top.invariant.0 c.show_row.ensures pushed.ensures.items in
    (rows, omega (arith, pushed.ensures.len, c.loop-top.invariant.1), pushed.ensures.capacity ∙ c.loop-top.invariant.2)
