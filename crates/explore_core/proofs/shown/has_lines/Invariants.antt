use Rattle.std.specs.Prelude.{⊤}
use Rattle.explore_core.proofs.shown.has_lines.Given as goal

abbrev pub invariant-loop-client : goal.invariant-loop-client
invariant-loop-client l = ⊤
