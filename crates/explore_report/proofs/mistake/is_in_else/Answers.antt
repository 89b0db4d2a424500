use Rattle.explore_report.proofs.Mistakes.{in_else-end, in_else-next}
use Rattle.explore_report.proofs.mistake.is_in_else.Goals as goal

pub loop-row-preserved : goal.loop-row-preserved
loop-row-preserved c =
    in_else-next c.args.depth c.args.rows.now c.loop-row.row-index _ c.loop-row.inside c.else_after-inside.result _ c.loop-row-test.true c.row-item.is
    c.else_after-inside.ensures c.loop-row.invariant

pub returns : goal.returns
returns c = record {
  inside = in_else-end c.args.depth c.args.rows.now c.loop-row.row-index c.loop-row.inside _ c.loop-row-test.false c.loop-row.invariant;
}
