use Rattle.std.specs.Prelude.{⊤}
use Rattle.trace_script.proofs.safe_names.free_name.Given as goal

abbrev pub invariant-loop-number : goal.invariant-loop-number
invariant-loop-number l = ⊤
