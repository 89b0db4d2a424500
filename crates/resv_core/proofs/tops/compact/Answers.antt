use Rattle.std.proofs.Common.{arith}
use Rattle.resv_core.proofs.Compaction.{AreTops-IsRising, IsCompacted-none, IsCompacted-more, AgreesAbove-IsCompacted}
use Rattle.resv_core.proofs.tops.compact.Goals as goal

pub loop-index-init : goal.loop-index-init
loop-index-init c = record {
  kept = rw c.clear.ensures.items (IsCompacted-none c.of-tops.result c.args.reach.now);
  few = omega arith;
  places = omega arith;
}

pub loop-index-preserved : goal.loop-index-preserved
loop-index-preserved c = record {
  kept =
      rw c.keep.ensures.items (IsCompacted-more c.loop-index.invariant.kept c.at.result c.at.ensures (AreTops-IsRising c.of-tops.ensures.tops c.at.result (omega arith) (omega (arith, c.loop-index-test.true, c.used-index-end.ensures.within))));
  few = omega arith;
  places = omega arith;
}

pub returns-clause-agrees : goal.returns-clause-agrees
returns-clause-agrees c =
    let tell = rw c.as_slice.ensures.value at c.of-tops.ensures.tops in
    let within = rw c.as_slice.ensures.value at c.of-tops.ensures.contexts in
    AgreesAbove-IsCompacted tell within (omega arith) (λ ctx past few. c.used-index-end.ensures.past ctx (omega arith)) c.loop-index.invariant.kept
