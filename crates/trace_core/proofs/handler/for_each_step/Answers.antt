use Rattle.std.proofs.Common.{sym}
use Rattle.trace_core.proofs.Stepping.{reading-more, reading-none, taken-in}
use Rattle.trace_core.proofs.handler.for_each_step.Goals as goal

pub loop-init : goal.loop-init
loop-init g c = reading-none _ _ _ _ (c.new-reading.ensures.none (g.R.Read.remaining c.args.reader.now) c.args.tracker.now c.requires.fresh)

pub returns-then-is_end-clause-read : goal.returns-then-is_end-clause-read
returns-then-is_end-clause-read g c =
    let h = c.loop.invariant in
    taken-in _ _ _ _ _ _ _ c.in_ok-next.next (sym c.if-is_end.ensures) (c.in_ok-next.ensures.more _ _ h.items h.seen h.read)

pub loop-preserved : goal.loop-preserved
loop-preserved g c =
    let h = c.loop.invariant in
    reading-more _ _ _ _ _ _ _ c.in_ok-next.next (c.in_ok-next.ensures.more _ _ h.items h.seen h.read)
