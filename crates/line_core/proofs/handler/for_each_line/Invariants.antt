use Rattle.line_core.specs.Handling.{HandlesGiven}
use Rattle.line_core.specs.ScriptLines.{turns_to_come}
use Rattle.line_core.proofs.handler.for_each_line.Given as goal

abbrev pub invariant-loop-lines : goal.invariant-loop-lines
invariant-loop-lines g l =
    HandlesGiven g.H.LineHandler.handled (g.R.Read.remaining l.initial.reader) (g.R.Read.remaining l.reader) l.lines (l.initial.handler, l.initial.output, l.initial.notes) (l.handler, l.output, l.notes)

abbrev pub decreases-loop-lines : goal.decreases-loop-lines
decreases-loop-lines g l = turns_to_come l.lines
