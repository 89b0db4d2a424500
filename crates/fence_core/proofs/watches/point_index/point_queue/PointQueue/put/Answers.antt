use Rattle.std.proofs.Common.{◌∙◌, ap, ◌||◌}
use Rattle.fence_core.specs.PointIndex.{is_alike, has, is_low, number}
use Rattle.fence_core.proofs.Queued.{has-put, number-put}
use Rattle.fence_core.proofs.watches.point_index.point_queue.PointQueue.put.Goals as goal

pub returns-clause-put : goal.returns-clause-put
returns-clause-put c = λ s.
    has-put c.self.inside.watches.keys c.insert.new.self.keys c.args.watch.now s (c.in-Ok.ensures.updates.0 s)
    ∙ ap (λ q. is_alike c.args.watch.now s || has q s) c.self.view_is

pub returns-clause-low : goal.returns-clause-low
returns-clause-low c = λ value high.
    ap (number (is_low value)) c.in-Ok.ensures.keys
    ∙ number-put (is_low value) c.self.inside.watches.keys c.args.watch.now high
    ∙ ap (number (is_low value)) c.self.view_is
