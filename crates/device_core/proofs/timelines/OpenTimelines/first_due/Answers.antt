use Rattle.std.proofs.Common.{Some, subst}
use Rattle.device_core.specs.Due.{IsFirstHeld}
use Rattle.device_core.specs.Floors.{TimelinesState}
use Rattle.device_core.proofs.Due.{a-first}
use Rattle.device_core.proofs.timelines.OpenTimelines.first_due.Goals as goal

pub returns-in-Some : goal.returns-in-Some
returns-in-Some c =
    subst (λ (t : TimelinesState). IsFirstHeld t.index c.args.number c.args.value (Some c.in-Some.first.value)) c.self.view_is
    (a-first c.self.inside.waiting c.args.number c.args.value c.in-Some.first c.in-Some.ensures.some.0 c.in-Some.ensures.some.1 c.in-Some.ensures.least)
