use Rattle.std.proofs.Common.{arith}
use Rattle.trace_script.proofs.Scripting.{no-events, written}
use Rattle.trace_script.proofs.text.script_of.Goals as goal

pub returns-then-events-eq0-clause-scripted : goal.returns-then-events-eq0-clause-scripted
returns-then-events-eq0-clause-scripted g c =
    let h = c.in_ok-for_each_step.ensures.read in
    let counted = c.events.ensures.counted h.tracks.fences.steps h.tracks.fences.ledger in
    no-events _ _ _ _ h (omega (arith, counted, c.if-events-eq0.true))

pub returns-clause-scripted : goal.returns-clause-scripted
returns-clause-scripted g c =
    let h = c.in_ok-for_each_step.ensures.read in
    let counted = c.events.ensures.counted h.tracks.fences.steps h.tracks.fences.ledger in
    written _ _ _ _ h c.in_ok-scripted.scripted (λ zero. absurd (omega (arith, counted, zero, c.if-events-eq0.false))) c.in_ok-scripted.ensures.written
