use Rattle.std.proofs.Common.{ℕ, ◌≤◌}
use Rattle.resv_core.specs.Tops.{AreSameAt}
use Rattle.resv_core.proofs.tops.Tops.is_same.Given as goal

abbrev pub invariant-loop-index : goal.invariant-loop-index
invariant-loop-index l = (ctx : ℕ) → 1 ≤ ctx → ctx ≤ l.index → AreSameAt l.self l.other ctx
