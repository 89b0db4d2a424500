use Rattle.std.proofs.Common.{arith}
use Rattle.trace_report.proofs.Writing.{no-events, some-events}
use Rattle.trace_report.proofs.events.write_trace.Goals as goal

pub returns-then-events-eq0-clause-written : goal.returns-then-events-eq0-clause-written
returns-then-events-eq0-clause-written g c =
    let h = c.in_ok-for_each_step.ensures.read in
    let counted = c.events.ensures.counted h.tracks.fences.steps h.tracks.fences.ledger in
    no-events _ _ _ _ h (omega (arith, counted, c.if-events-eq0.true))

pub returns-clause-written : goal.returns-clause-written
returns-clause-written g c =
    let h = c.in_ok-for_each_step.ensures.read in
    let counted = c.events.ensures.counted h.tracks.fences.steps h.tracks.fences.ledger in
    some-events _ _ _ _ h (λ zero. absurd (omega (arith, counted, zero, c.if-events-eq0.false)))
