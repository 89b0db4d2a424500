use Rattle.std.proofs.Common.{◌≡◌, ◌++◌, drop, length}
use Rattle.explore_report.specs.Lines.{texts_of}
use Rattle.explore_report.specs.Plan.{steps_from, steps_in}
use Rattle.explore_report.proofs.sections.steps_in.Given as goal

abbrev pub invariant-loop-index : goal.invariant-loop-index
invariant-loop-index l =
    l.steps.items ++ steps_from l.purpose (texts_of l.lines) l.rows l.section (length l.steps.items) (drop l.index l.rows) ≡ steps_in l.purpose (texts_of l.lines) l.section l.rows
