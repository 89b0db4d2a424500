use Rattle.std.proofs.Common.{◌≡◌, ◌++◌, Bor, List, ℕ, length, map}
use Rattle.line_core.specs.Script.{lines_of}
use Rattle.explore_report.proofs.plan_script.lines_of.Given as goal

abbrev pub decreases-loop-line : goal.decreases-loop-line
decreases-loop-line l = length l.rest

abbrev pub invariant-loop-line : goal.invariant-loop-line
invariant-loop-line l =
    map (λ (line : Bor (List ℕ)). line.now) l.lines.items ++ lines_of l.rest ≡ lines_of l.script
