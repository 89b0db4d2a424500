use Rattle.std.proofs.Common.{◌≡◌, ℕ, ◌<◌, length, get_or}
use Rattle.point_core.specs.declared.context.TheConstants.{CONTEXTS}
use Rattle.point_core.specs.Clocks.{open_clock, new_clock}
use Rattle.point_core.proofs.clocks.Clocks.open.Given as goal

abbrev pub invariant-loop-index : goal.invariant-loop-index
invariant-loop-index l = record {
  full : length l.clocks ≡ CONTEXTS;
  made : (k : ℕ) → k < l.index → get_or l.clocks k new_clock ≡ open_clock (get_or l.fn.reach k 0);
}
