use Rattle.std.specs.Prelude.{Some}
use Rattle.device_core.proofs.Floors.{timelines-changed}
use Rattle.device_core.proofs.timelines.OpenTimelines.insert.Goals as goal

pub returns-clause-updates : goal.returns-clause-updates
returns-clause-updates c = λ q.
    timelines-changed c.self.inside.by_number.entries c.insert.new.self.entries c.args.number (Some (record { timeline = c.args.timeline; floor = 0 })) c.self.inside.waiting c.args.self.now c.self.view_is (λ r. c.in-Ok.ensures.updates.0 r) q
