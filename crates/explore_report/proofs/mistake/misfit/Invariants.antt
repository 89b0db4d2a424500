use Rattle.std.proofs.Common.{ℕ, ◌<◌}
use Rattle.explore_report.specs.Mistake.{Fits}
use Rattle.explore_report.proofs.mistake.misfit.Given as goal

abbrev pub invariant-loop-index : goal.invariant-loop-index
invariant-loop-index l = (k : ℕ) → k < l.index → Fits l.rows k
