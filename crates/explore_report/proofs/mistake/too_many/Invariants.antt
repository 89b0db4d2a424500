use Rattle.std.proofs.Common.{◌≡◌, ◌+◌, take}
use Rattle.std.specs.Prelude.{count_by}
use Rattle.explore_report.specs.Rows.{is_line}
use Rattle.explore_report.specs.declared.cause.TheConstants.{PLAN_LINES}
use Rattle.explore_report.proofs.mistake.too_many.Given as goal

abbrev pub invariant-loop-row : goal.invariant-loop-row
invariant-loop-row l = l.left + count_by is_line (take l.row-index l.rows) ≡ PLAN_LINES
