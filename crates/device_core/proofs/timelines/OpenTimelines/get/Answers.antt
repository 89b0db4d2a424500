use Rattle.std.proofs.Common.{◌∙◌, sym, ap}
use Rattle.std.specs.Prelude.{option_map}
use Rattle.device_core.specs.declared.timelines.OpenTimeline.{OpenTimeline}
use Rattle.device_core.proofs.Floors.{at-view}
use Rattle.device_core.proofs.timelines.OpenTimelines.get.Goals as goal

pub returns-in-Some : goal.returns-in-Some
returns-in-Some c =
    ap (option_map (λ (o : OpenTimeline). o.timeline)) c.in-Some.ensures.value
    ∙ sym (at-view c.self.inside.by_number.entries c.self.inside.waiting c.args.self.now c.self.view_is c.args.number.now)

pub returns-in-None : goal.returns-in-None
returns-in-None c =
    ap (option_map (λ (o : OpenTimeline). o.timeline)) c.in-None.ensures.value
    ∙ sym (at-view c.self.inside.by_number.entries c.self.inside.waiting c.args.self.now c.self.view_is c.args.number.now)
