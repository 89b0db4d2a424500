use Rattle.explore_report.proofs.Mistakes.{few-all}
use Rattle.explore_report.proofs.mistake.too_many.Goals as goal

pub returns : goal.returns
returns c = record { found = few-all c.args.rows.now c.loop-row.row-index c.loop-row.left c.loop-row-test.false c.loop-row.invariant }
