use Rattle.std.proofs.Common.{◌∙◌}
use Rattle.std.specs.Prelude.{None}
use Rattle.device_core.proofs.Floors.{timelines-changed}
use Rattle.device_core.proofs.timelines.OpenTimelines.close.Goals as goal

pub returns-clause-closed : goal.returns-clause-closed
returns-clause-closed c = λ q.
    timelines-changed c.self.inside.by_number.entries c.give_room_back.new.map.entries c.args.number None c.self.inside.waiting c.args.self.now c.self.view_is (λ r. c.give_room_back.ensures r ∙ c.remove.ensures.updates.0 r) q
