use Rattle.std.proofs.Common.{ℕ, ◌<◌, ◌≤◌, ◌↔◌, get_or}
use Rattle.std.specs.Prelude.{IsTrue}
use Rattle.point_core.proofs.context_values.ContextValues.at_least.Given as goal

abbrev pub invariant-loop-index : goal.invariant-loop-index
invariant-loop-index l = IsTrue l.all ↔ ((k : ℕ) → k < l.index → get_or l.other k 0 ≤ get_or l.self-inside.values k 0)
