use Rattle.script_core.specs.Output.{Grows}
use Rattle.reason_core.proofs.look.write_escaped.Given as goal

abbrev pub invariant-loop-byte : goal.invariant-loop-byte
invariant-loop-byte g l = Grows (g.N.Write.contents l.fn.notes) (g.N.Write.contents l.notes)
