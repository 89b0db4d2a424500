use Rattle.trace_core.proofs.Parts.{IsLeft}
use Rattle.trace_core.proofs.steps.part_at.Given as goal

abbrev pub invariant-loop-place : goal.invariant-loop-place
invariant-loop-place l = IsLeft l.text l.bytes l.place
