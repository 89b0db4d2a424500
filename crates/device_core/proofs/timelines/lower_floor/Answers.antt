use Rattle.std.proofs.Common.{◌∙◌, ap, nat_eq}
use Rattle.device_core.specs.declared.timelines.OpenTimeline.{OpenTimeline}
use Rattle.device_core.specs.Floors.{timelines_in}
use Rattle.device_core.proofs.Floors.{lowered_by-timeline, timelines-written}
use Rattle.device_core.proofs.timelines.lower_floor.Goals as goal

pub returns-in-Some-clause-same : goal.returns-in-Some-clause-same
returns-in-Some-clause-same c =
    ap timelines_in (c.get_mut.follows.holds c.lower.new.self).0
    ∙ timelines-written (nat_eq c.args.fence.now.timeline) c.args.timelines.now.entries c.in-Some.known.now c.lower.new.self c.in-Some.ensures.value
    (ap (λ (o : OpenTimeline). o.timeline) c.lower.ensures ∙ lowered_by-timeline c.args.fence.now c.in-Some.known.now)
