use Rattle.std.proofs.Common.{◌≡◌, take}
use Rattle.explore_report.specs.Plan.{commands_in}
use Rattle.explore_report.proofs.sections.commands_in.Given as goal

abbrev pub invariant-loop-row : goal.invariant-loop-row
invariant-loop-row l = l.commands.items ≡ commands_in l.section (take l.row-index l.rows)
