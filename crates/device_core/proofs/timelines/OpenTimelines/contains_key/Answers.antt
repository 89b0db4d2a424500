use Rattle.std.proofs.Common.{◌∙◌, sym, ap}
use Rattle.std.specs.Prelude.{is_some}
use Rattle.device_core.specs.declared.timelines.OpenTimeline.{OpenTimeline}
use Rattle.device_core.specs.theorem.State.{at}
use Rattle.device_core.proofs.Floors.{at-view, is_some-map}
use Rattle.device_core.proofs.timelines.OpenTimelines.contains_key.Goals as goal

pub returns : goal.returns
returns c =
    let es = c.self.inside.by_number.entries in
    c.contains_key.ensures
    ∙ is_some-map (λ (o : OpenTimeline). o.timeline) (at es c.args.number.now)
    ∙ ap is_some (sym (at-view es c.self.inside.waiting c.args.self.now c.self.view_is c.args.number.now))
