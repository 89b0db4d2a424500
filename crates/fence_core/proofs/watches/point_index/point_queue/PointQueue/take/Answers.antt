use Rattle.std.proofs.Common.{◌<◌, ◌∙◌, ap, not, ◌&&◌, sym, subst}
use Rattle.fence_core.specs.PointIndex.{is_alike, has, is_low, number}
use Rattle.fence_core.proofs.Queued.{has-taken, number-taken}
use Rattle.fence_core.proofs.watches.point_index.point_queue.PointQueue.take.Goals as goal

pub returns-clause-taken : goal.returns-clause-taken
returns-clause-taken c = λ s.
    has-taken c.self.inside.watches.keys c.remove.new.self.keys c.args.watch.now s (c.remove.ensures.updates.0 s)
    ∙ ap (λ q. not (is_alike c.args.watch.now s) && has q s) c.self.view_is

pub returns-clause-fewer : goal.returns-clause-fewer
returns-clause-fewer c = λ value low there.
    let counted = number (is_low value) in
    let fewer = number-taken (is_low value) c.self.inside.watches.keys c.args.watch.now low (ap (λ q. has q c.args.watch.now) c.self.view_is ∙ there) in
    subst (λ q. counted c.remove.new.self.keys < counted q) c.self.view_is (subst (λ q. counted q < counted c.self.inside.watches.keys) (sym c.remove.ensures.keys) fewer)
