use Rattle.std.proofs.Common.{arith, refl}
use Rattle.point_core.proofs.Latest.{IsLatest-weaker}
use Rattle.resv_core.proofs.tops.put_at.Goals as goal

pub returns-then-number-clause-latest : goal.returns-then-number-clause-latest
returns-then-number-clause-latest c = λ reach es before.
    c.put.ensures.latest reach es c.args.entry.now _ refl (omega arith) before

pub returns-else-number-clause-latest : goal.returns-else-number-clause-latest
returns-else-number-clause-latest c = λ reach es before.
    IsLatest-weaker c.args.entry.now before (omega arith)
