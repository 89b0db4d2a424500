use Rattle.script_core.specs.Output.{Grows}
use Rattle.reason_core.proofs.look.write_byte.Given as goal

abbrev pub invariant-loop-escaped : goal.invariant-loop-escaped
invariant-loop-escaped g l = Grows (g.N.Write.contents l.fn.notes) (g.N.Write.contents l.notes)
