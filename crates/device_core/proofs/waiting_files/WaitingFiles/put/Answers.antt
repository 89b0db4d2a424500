use Rattle.std.proofs.Common.{◌∙◌, ap, ◌||◌}
use Rattle.device_core.specs.theorem.State.{is_same, holds}
use Rattle.device_core.proofs.Held.{holds-put}
use Rattle.device_core.proofs.waiting_files.WaitingFiles.put.Goals as goal

pub returns-clause-put : goal.returns-clause-put
returns-clause-put c = λ k.
    holds-put c.self.inside.points.keys c.insert.new.self.keys c.args.waiter k (c.in-Ok.ensures.updates.0 k)
    ∙ ap (λ ks. is_same c.args.waiter k || holds ks k) c.self.view_is
