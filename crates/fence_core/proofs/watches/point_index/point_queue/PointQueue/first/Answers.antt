use Rattle.std.proofs.Common.{◌∙◌, sym, subst}
use Rattle.fence_core.specs.PointIndex.{IsRising}
use Rattle.fence_core.proofs.PointIndex.{first-least}
use Rattle.fence_core.proofs.watches.point_index.point_queue.PointQueue.first.Goals as goal

pub returns-in-Some-clause-least : goal.returns-in-Some-clause-least
returns-in-Some-clause-least c = λ s there.
    first-least c.args.self.now c.next.new.self c.in-Some.first.now s (subst IsRising c.self.view_is c.iter.ensures.ordered) (sym c.self.view_is ∙ sym c.iter.ensures.rest ∙ c.in-Some.ensures.steps) there
