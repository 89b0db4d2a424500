use Rattle.std.proofs.Common.{◌∙◌, ap, not, ◌&&◌}
use Rattle.device_core.specs.theorem.State.{is_same, holds}
use Rattle.device_core.proofs.Held.{holds-take, fewer-taken}
use Rattle.device_core.proofs.waiting_files.WaitingFiles.take.Goals as goal

pub returns-clause-taken : goal.returns-clause-taken
returns-clause-taken c = λ k.
    holds-take c.self.inside.points.keys c.remove.new.self.keys c.args.waiter k (c.remove.ensures.updates.0 k)
    ∙ ap (λ ks. not (is_same c.args.waiter k) && holds ks k) c.self.view_is

pub returns-clause-fewer : goal.returns-clause-fewer
returns-clause-fewer c = λ there.
    fewer-taken c.self.inside.points.keys c.remove.new.self.keys c.args.self.now c.args.waiter c.remove.result c.self.view_is c.remove.ensures.test c.remove.ensures.len there
