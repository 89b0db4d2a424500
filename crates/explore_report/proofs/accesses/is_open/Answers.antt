use Rattle.explore_report.proofs.Mistakes.{is_open-end, is_open-next}
use Rattle.explore_report.proofs.accesses.is_open.Goals as goal

pub loop-row-preserved : goal.loop-row-preserved
loop-row-preserved c =
    is_open-next c.args.name.now c.args.rows.now c.loop-row.row-index _ c.loop-row.lasts c.open_after-lasts.result _ c.loop-row-test.true c.row-item.is
    c.open_after-lasts.ensures c.loop-row.invariant

pub returns : goal.returns
returns c = record {
  lasts = is_open-end c.args.name.now c.args.rows.now c.loop-row.row-index c.loop-row.lasts _ c.loop-row-test.false c.loop-row.invariant;
}
