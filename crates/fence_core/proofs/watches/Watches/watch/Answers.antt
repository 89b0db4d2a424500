use Rattle.std.proofs.Common.{subst}
use Rattle.fence_core.specs.PointIndex.{IsOneAbove}
use Rattle.fence_core.specs.Watch.{Registry}
use Rattle.fence_core.proofs.Causes.{cause-by_Ok}
use Rattle.fence_core.proofs.watches.Watches.watch.Goals as goal

pub enter-requires : goal.enter-requires
enter-requires c = record {
  free = cause-by_Ok _ _ _ c.in_ok-free.ensures;
  rising = c.requires.rising;
  above = subst (λ (r : Registry). IsOneAbove r.reach c.args.points.now c.in-Some.first) c.self.view_is c.in-Some.ensures.above;
}
