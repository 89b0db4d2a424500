use Rattle.std.proofs.Common.{arith}
use Rattle.check_core.proofs.Reported.{written-next}
use Rattle.check_core.proofs.updates.written_count.Goals as goal

pub loop-update-preserved : goal.loop-update-preserved
loop-update-preserved c =
    let was = c.loop-update.invariant in
    let one = c.one_if_written-written in
    (written-next c.args.updates.now c.loop-update.update-index c.loop-update.written one.result _ c.loop-update-test.true was.0 one.ensures.one, omega (arith, was.1, one.ensures.few))
