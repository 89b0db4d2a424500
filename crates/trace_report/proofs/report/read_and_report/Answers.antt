use Rattle.std.proofs.Common.{refl, arith, inl, inr}
use Rattle.trace_report.specs.declared.report.TraceOutcome.TheVariants.{NoEvents}
use Rattle.trace_report.proofs.Reported.{err-then, judged, ok-then, reported}
use Rattle.trace_report.proofs.report.read_and_report.Goals as goal

pub returns-then-events-eq0-clause-reported : goal.returns-then-events-eq0-clause-reported
returns-then-events-eq0-clause-reported g c =
    let h = c.in_ok-for_each_step.ensures.read in
    let counted = c.events.ensures.counted h.tracks.fences.steps h.tracks.fences.ledger in
    reported _ _ _ _ _ _ h NoEvents (omega (arith, counted, c.if-events-eq0.true), refl)

pub returns-clause-reported : goal.returns-clause-reported
returns-clause-reported g c =
    let h = c.in_ok-for_each_step.ensures.read in
    let counted = c.events.ensures.counted h.tracks.fences.steps h.tracks.fences.ledger in
    let ledger = h.tracks.fences.ledger in
    ok-then c.write_report-outcome.result c.write_report-outcome.ensures.verdict
    (λ outcome verdict. judged _ _ _ _ _ _ h outcome (λ zero. absurd (omega (arith, counted, zero, c.if-events-eq0.false)))
    (verdict _ ledger (c.in_ok-found.ensures.hangs _ ledger)))

pub returns-clause-refusals : goal.returns-clause-refusals
returns-clause-refusals g c =
    err-then c.write_report-outcome.result c.write_report-outcome.ensures.refusals (λ e is. elim is [ inl write ↦ inr (inl write) | inr memory ↦ inr (inr memory) ])
