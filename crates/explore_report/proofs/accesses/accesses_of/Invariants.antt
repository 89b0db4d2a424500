use Rattle.std.proofs.Common.{◌≡◌, ◌++◌, drop}
use Rattle.explore_report.specs.Accesses.{access_at}
use Rattle.explore_report.specs.Cases.{by_place}
use Rattle.explore_report.specs.Plan.{accesses_of}
use Rattle.explore_report.proofs.accesses.accesses_of.Given as goal

abbrev pub invariant-loop-index : goal.invariant-loop-index
invariant-loop-index l = l.accesses.items ++ by_place (access_at l.rows) l.index (drop l.index l.rows) ≡ accesses_of l.rows
