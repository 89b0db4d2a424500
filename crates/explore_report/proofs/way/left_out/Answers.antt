use Rattle.std.proofs.Common.{sym, ◌∙◌}
use Rattle.explore_report.proofs.Ways.{left_out-end, left_out-next, left_out-settled}
use Rattle.explore_report.proofs.way.left_out.Goals as goal

pub returns-then-is_settled : goal.returns-then-is_settled
returns-then-is_settled c = record {
  count = left_out-settled c.loop-row.way c.args.rows.now c.loop-row.row-index c.loop-row.count _ (sym c.is_settled.ensures ∙ c.if-is_settled.true)
      c.loop-row.invariant;
}

pub loop-row-preserved : goal.loop-row-preserved
loop-row-preserved c =
    left_out-next c.loop-row.way c.args.rows.now c.loop-row.row-index _ c.loop-row.count c.in_ok-count.count _ _ _ c.loop-row-test.true c.row-item.is
    c.in_ok-count.ensures.sum c.passed_at.ensures c.below-way.ensures c.loop-row.invariant

pub returns : goal.returns
returns c = record {
  count = left_out-end c.loop-row.way c.args.rows.now c.loop-row.row-index c.loop-row.count _ c.loop-row-test.false c.loop-row.invariant;
}
