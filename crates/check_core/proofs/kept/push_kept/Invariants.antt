use Rattle.std.proofs.Common.{◌≡◌, ◌++◌, length}
use Rattle.std.specs.List.{flat_map}
use Rattle.line_core.specs.Script.{lines_of}
use Rattle.check_core.specs.Kept.{kept_line}
use Rattle.check_core.proofs.kept.push_kept.Given as goal

abbrev pub invariant-loop-line : goal.invariant-loop-line
invariant-loop-line l = l.text.items ++ flat_map kept_line (lines_of l.rest) ≡ l.fn.text.items ++ flat_map kept_line (lines_of l.script)

abbrev pub decreases-loop-line : goal.decreases-loop-line
decreases-loop-line l = length l.rest
