use Rattle.check_core.proofs.Totals.{no_counts-is, totals-next}
use Rattle.check_core.proofs.summary.totals_of.Goals as goal

pub loop-outcome-init : goal.loop-outcome-init
loop-outcome-init c = no_counts-is c.new-totals.result c.new-totals.ensures.empty

pub loop-outcome-preserved : goal.loop-outcome-preserved
loop-outcome-preserved c = totals-next c.args.outcomes.now c.loop-outcome.outcome-index c.loop-outcome.totals c.tally.result c.with-totals.result _ c.loop-outcome-test.true c.loop-outcome.invariant c.tally.ensures c.with-totals.ensures
