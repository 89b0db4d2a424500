use Rattle.std.proofs.Common.{◌+◌, sym, ◌∙◌}
use Rattle.point_core.proofs.Ticking.{common_status-active, common_status-take_more}
use Rattle.point_core.proofs.clocks.Clocks.common_status.Goals as goal

pub loop-point-preserved : goal.loop-point-preserved
loop-point-preserved c =
    c.with-status.ensures
    ∙ common_status-take_more c.args.self.now c.args.points.now c.loop-point.point-index c.point-item.result c.loop-point.status c.loop-point-test.true c.point-item.is c.loop-point.invariant c.status.ensures

pub returns-in-Active : goal.returns-in-Active
returns-in-Active c =
    let next = c.with-status.ensures
    ∙ common_status-take_more c.args.self.now c.args.points.now c.loop-point.point-index c.point-item.result c.loop-point.status c.loop-point-test.true c.point-item.is c.loop-point.invariant c.status.ensures in
    sym (common_status-active c.args.self.now c.args.points.now (c.loop-point.point-index + 1) (sym next ∙ c.in-Active.is))
