use Rattle.check_core.proofs.Totals.{no_counts-is}
use Rattle.check_core.proofs.outcome.CheckOutcome.tally.Goals as goal

pub returns-in-Failed : goal.returns-in-Failed
returns-in-Failed c = rw c.in-Failed.is (no_counts-is c.new.result c.new.ensures.empty)
