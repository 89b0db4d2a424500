use Rattle.explore_report.specs.Cases.{index_at}
use Rattle.explore_report.proofs.Places.{by_place-end, by_place-step}
use Rattle.explore_report.proofs.row.push_commands.Goals as goal

pub loop-index-preserved : goal.loop-index-preserved
loop-index-preserved c =
    by_place-step (index_at c.args.section) c.args.rows.now c.loop-index.index c.index-rows-index.result c.loop-index.indices.items c.push_index.new.indices.items _
    c.loop-index-test.true c.index-rows-index.is c.in_ok-push_index.ensures.pushed c.loop-index.invariant

pub returns : goal.returns
returns c = record {
  pushed = by_place-end (index_at c.args.section) c.args.rows.now c.loop-index.index c.loop-index.indices.items _ c.loop-index-test.false c.loop-index.invariant;
}
