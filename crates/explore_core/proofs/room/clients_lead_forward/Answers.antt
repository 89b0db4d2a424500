use Rattle.std.proofs.Common.{List, subst}
use Rattle.std.specs.Prelude.{All, Vec}
use Rattle.std.specs.Global.{Global}
use Rattle.std.proofs.lemmas.List.{take_all}
use Rattle.explore_core.specs.declared.plan.Step.{Step}
use Rattle.explore_core.specs.Room.{LeadForward}
use Rattle.explore_core.proofs.Bounding.{all-next}
use Rattle.explore_core.proofs.room.clients_lead_forward.Goals as goal

pub loop-lines-preserved : goal.loop-lines-preserved
loop-lines-preserved c =
    all-next (λ (lines : Vec Step Global). LeadForward lines.items) c.args.clients.now c.loop-lines.lines-index c.lines-item.result c.loop-lines-test.true c.lines-item.is c.loop-lines.invariant
    (subst LeadForward c.as_slice.ensures.value (c.lines_lead_forward.ensures c.if-not-lines_lead_forward.false))

pub returns : goal.returns
returns c = λ _.
    subst (λ (clients : List (Vec Step Global)). All (λ (lines : Vec Step Global). LeadForward lines.items) clients) (take_all c.loop-lines.lines-index c.args.clients.now c.loop-lines-test.false) c.loop-lines.invariant
