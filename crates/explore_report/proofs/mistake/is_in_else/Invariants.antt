use Rattle.std.proofs.Common.{◌≡◌, false, drop}
use Rattle.explore_report.specs.Mistake.{in_else}
use Rattle.explore_report.proofs.mistake.is_in_else.Given as goal

abbrev pub invariant-loop-row : goal.invariant-loop-row
invariant-loop-row l = in_else l.depth l.inside (drop l.row-index l.rows) ≡ in_else l.depth false l.rows
