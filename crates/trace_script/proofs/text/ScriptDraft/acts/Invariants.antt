use Rattle.trace_script.specs.Line.{AreLines}
use Rattle.trace_script.proofs.text.ScriptDraft.acts.Given as goal

abbrev pub invariant-loop-act : goal.invariant-loop-act
invariant-loop-act l = AreLines l.fn.self.bytes.items → AreLines l.self.bytes.items
