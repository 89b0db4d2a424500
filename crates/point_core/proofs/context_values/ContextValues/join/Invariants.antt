use Rattle.std.proofs.Common.{◌≡◌, ℕ, ◌<◌, ◌≤◌, max, get_or, length}
use Rattle.point_core.proofs.context_values.ContextValues.join.Given as goal

abbrev pub invariant-loop-index : goal.invariant-loop-index
invariant-loop-index l = record {
  full : length l.self-inside.values ≡ length l.initial.self-inside.values;
  used : l.self-inside.used ≡ l.initial.self-inside.used;
  joined : (k : ℕ) → k < l.index → get_or l.self-inside.values k 0 ≡ max (get_or l.initial.self-inside.values k 0) (get_or l.other k 0);
  others : (k : ℕ) → l.index ≤ k → get_or l.self-inside.values k 0 ≡ get_or l.initial.self-inside.values k 0;
}
