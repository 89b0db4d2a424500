use Rattle.std.proofs.Common.{◌≡◌, ◌<◌, ◌≤◌, ℕ, length}
use Rattle.point_core.specs.Reach.{value_at}
use Rattle.point_core.specs.declared.context.TheConstants.{CONTEXTS}
use Rattle.words_core.specs.theorem.Seat.{added_to}
use Rattle.clients_core.proofs.Gathering.{HasOnlyLoaded}
use Rattle.clients_core.proofs.gathered_values.gathered.Given as goal

abbrev pub invariant-loop-index : goal.invariant-loop-index
invariant-loop-index l = record {
  loaded : HasOnlyLoaded l.initial.all l.all;
  values : (ctx : ℕ) → 1 ≤ ctx → ctx ≤ l.index → value_at l.reach ctx ≡ added_to l.initial.all ctx;
  past : (ctx : ℕ) → l.index < ctx → value_at l.reach ctx ≡ 0;
  full : length l.reach ≡ CONTEXTS;
}
