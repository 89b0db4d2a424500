use Rattle.explore_report.proofs.Turns.{numbered-next}
use Rattle.explore_report.proofs.unrolling.numbered.Goals as goal

pub loop-above-preserved : goal.loop-above-preserved
loop-above-preserved c =
    numbered-next c.loop-above.above c.loop-above.turns.items c.push.new.self.items c.loop-above.invariant c.in_ok-push.ensures.items
