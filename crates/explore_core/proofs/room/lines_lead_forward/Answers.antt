use Rattle.std.proofs.Common.{List, subst}
use Rattle.std.proofs.lemmas.List.{take_all}
use Rattle.std.proofs.lemmas.Option.{none-some}
use Rattle.explore_core.specs.declared.plan.Step.{Step}
use Rattle.explore_core.specs.Room.{LeadForward, LeadsForward}
use Rattle.explore_core.proofs.Bounding.{places-next}
use Rattle.explore_core.proofs.room.lines_lead_forward.Goals as goal

pub loop-place-init : goal.loop-place-init
loop-place-init c = λ place step at. absurd (none-some step at)

pub loop-place-preserved : goal.loop-place-preserved
loop-place-preserved c =
    places-next LeadsForward c.args.lines.now c.loop-place.place c.index-lines-place.result c.loop-place-test.true c.index-lines-place.is c.loop-place.invariant
    (c.leads_forward.ensures c.if-not-leads_forward.false)

pub returns : goal.returns
returns c = λ _.
    subst (λ (lines : List Step). LeadForward lines) (take_all c.loop-place.place c.args.lines.now c.loop-place-test.false) c.loop-place.invariant
