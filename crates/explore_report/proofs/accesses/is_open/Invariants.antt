use Rattle.std.proofs.Common.{◌≡◌, false, drop}
use Rattle.explore_report.specs.Accesses.{is_open}
use Rattle.explore_report.proofs.accesses.is_open.Given as goal

abbrev pub invariant-loop-row : goal.invariant-loop-row
invariant-loop-row l = is_open l.name l.lasts (drop l.row-index l.rows) ≡ is_open l.name false l.rows
