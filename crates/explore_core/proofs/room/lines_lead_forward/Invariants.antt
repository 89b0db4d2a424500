use Rattle.std.proofs.Common.{take}
use Rattle.explore_core.specs.Room.{LeadForward}
use Rattle.explore_core.proofs.room.lines_lead_forward.Given as goal

abbrev pub invariant-loop-place : goal.invariant-loop-place
invariant-loop-place l = LeadForward (take l.place l.lines)
