use Rattle.std.proofs.Common.{◌≡◌, ◌++◌, drop}
use Rattle.explore_report.specs.Cases.{by_place, command_rows, index_at}
use Rattle.explore_report.proofs.row.push_commands.Given as goal

abbrev pub invariant-loop-index : goal.invariant-loop-index
invariant-loop-index l =
    l.indices.items ++ by_place (index_at l.section) l.index (drop l.index l.rows) ≡ l.fn.indices.items ++ command_rows l.section l.rows
