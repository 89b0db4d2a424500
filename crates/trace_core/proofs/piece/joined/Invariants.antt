use Rattle.std.proofs.Common.{◌≡◌, ◌-◌, ◌≤◌, ◌++◌, List, ℕ, drop}
use Rattle.trace_core.specs.Cutting.{AreLines, MayFollow}
use Rattle.trace_core.specs.Piece.{joined_from}
use Rattle.trace_core.proofs.piece.joined.Given as goal

-- the lines so far are no record, and with more lines they are what the first line is with more
abbrev pub invariant-loop-lines : goal.invariant-loop-lines
invariant-loop-lines l =
    (lines : List ℕ) × AreLines l.bytes l.whole lines l.end
    × ((more : List ℕ) → MayFollow l.whole more → joined_from 3 l.line (drop l.first l.bytes ++ more) ≡ joined_from (5 - l.lines) lines (drop l.end l.bytes ++ more))
    × (l.first ≤ l.end)
