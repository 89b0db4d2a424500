use Rattle.std.proofs.Common.{◌∙◌, arith}
use Rattle.desk_core.specs.theorem.Answer.{fence_row}
use Rattle.desk_core.proofs.Reporting.{rows-next}
use Rattle.desk_core.proofs.info.fence_rows.Goals as goal

pub loop-point-preserved : goal.loop-point-preserved
loop-point-preserved c =
    let pushed = c.push_reserved in
    let rows = rows-next (fence_row c.args.timelines.now) c.loop-point.rows.items pushed.new.self.items c.fence_row.result c.args.points.now c.loop-point.point-index c.point-item.result c.loop-point-test.true c.point-item.is c.loop-point.invariant.0 c.fence_row.ensures pushed.ensures.items in
    (rows, omega (arith, pushed.ensures.len, c.loop-point.invariant.1), pushed.ensures.capacity ∙ c.loop-point.invariant.2)
