use Rattle.std.proofs.Common.{◌≡◌, ℕ, ◌<◌, ◌≤◌, length}
use Rattle.point_core.specs.declared.context.TheConstants.{CONTEXTS}
use Rattle.point_core.specs.Reach.{value_at}
use Rattle.resv_core.specs.TopTable.{pending_value}
use Rattle.resv_core.proofs.kept_tops.drop_reached.Given as goal

abbrev pub invariant-loop-index : goal.invariant-loop-index
invariant-loop-index l = record {
  full : length l.latest ≡ CONTEXTS;
  values : (ctx : ℕ) → 1 ≤ ctx → ctx ≤ l.index → value_at l.latest ctx ≡ pending_value (value_at l.reach ctx) (value_at l.before ctx);
  rest : (ctx : ℕ) → l.index < ctx → value_at l.latest ctx ≡ 0;
}
