use Rattle.trace_core.specs.Reading.{IsReading}
use Rattle.trace_core.proofs.handler.for_each_step.Given as goal

abbrev pub invariant-loop : goal.invariant-loop
invariant-loop g l = IsReading l.fn.span l.reading l.tracker (g.R.Read.remaining l.initial.reader) (g.R.Read.remaining l.reader)
