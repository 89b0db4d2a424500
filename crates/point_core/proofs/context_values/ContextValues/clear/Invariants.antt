use Rattle.std.proofs.Common.{◌≡◌, ℕ, ◌<◌, ◌≤◌, get_or, length}
use Rattle.point_core.proofs.context_values.ContextValues.clear.Given as goal

abbrev pub invariant-loop-index : goal.invariant-loop-index
invariant-loop-index l = record {
  full : length l.self-inside.values ≡ length l.initial.self-inside.values;
  zero : (k : ℕ) → k < l.index → get_or l.self-inside.values k 0 ≡ 0;
  others : (k : ℕ) → l.index ≤ k → get_or l.self-inside.values k 0 ≡ get_or l.initial.self-inside.values k 0;
}
