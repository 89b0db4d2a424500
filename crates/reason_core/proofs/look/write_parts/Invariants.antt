use Rattle.script_core.specs.Output.{Grows}
use Rattle.reason_core.proofs.look.write_parts.Given as goal

abbrev pub invariant-loop-part : goal.invariant-loop-part
invariant-loop-part g l = Grows (g.N.Write.contents l.fn.notes) (g.N.Write.contents l.notes)
