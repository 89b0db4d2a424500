use Rattle.std.proofs.Common.{take}
use Rattle.std.specs.Prelude.{All, Vec}
use Rattle.std.specs.Global.{Global}
use Rattle.explore_core.specs.declared.plan.Step.{Step}
use Rattle.explore_core.specs.Room.{LeadForward}
use Rattle.explore_core.proofs.room.clients_lead_forward.Given as goal

abbrev pub invariant-loop-lines : goal.invariant-loop-lines
invariant-loop-lines l = All (λ (lines : Vec Step Global). LeadForward lines.items) (take l.lines-index l.clients)
