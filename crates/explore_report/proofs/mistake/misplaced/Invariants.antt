use Rattle.std.proofs.Common.{All, take}
use Rattle.explore_report.specs.Mistake.{IsPlaced}
use Rattle.explore_report.proofs.mistake.misplaced.Given as goal

abbrev pub invariant-loop-row : goal.invariant-loop-row
invariant-loop-row l = All IsPlaced (take l.row-index l.rows)
