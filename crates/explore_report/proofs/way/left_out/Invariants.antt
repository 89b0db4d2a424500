use Rattle.std.proofs.Common.{◌≡◌, ◌+◌, drop}
use Rattle.explore_report.specs.Plan.{left_out}
use Rattle.explore_report.proofs.way.left_out.Given as goal

abbrev pub invariant-loop-row : goal.invariant-loop-row
invariant-loop-row l = l.count + left_out l.way (drop l.row-index l.rows) ≡ left_out l.fn.start l.rows
