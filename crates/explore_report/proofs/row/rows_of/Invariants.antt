use Rattle.std.proofs.Common.{◌≡◌, ◌+◌, ◌++◌, Bor, List, ℕ, drop, map}
use Rattle.explore_report.specs.Rows.{rows_from, rows_of}
use Rattle.explore_report.proofs.row.rows_of.Given as goal

abbrev pub invariant-loop-index : goal.invariant-loop-index
invariant-loop-index l =
    l.rows.items ++ rows_from l.context (l.index + 1) (map (λ (line : Bor (List ℕ)). line.now) (drop l.index l.lines))
    ≡ rows_of (map (λ (line : Bor (List ℕ)). line.now) l.lines)
