use Rattle.std.proofs.Common.{◌≡◌, ◌<◌, List, sym, subst, IsTrue, arith}
use Rattle.point_core.specs.declared.entry.Entry.{Entry}
use Rattle.point_core.specs.declared.entry.Usage.TheVariants.{Bookkeep}
use Rattle.point_core.specs.Agreement.{AgreesAbove}
use Rattle.resv_core.specs.Settled.{all_puts}
use Rattle.clients_core.specs.Board.{places_to, raised_in}
use Rattle.clients_core.proofs.Topping.{raised_entries-same}
use Rattle.clients_core.proofs.raised_tops.are_as_planned.Goals as goal

pub returns-then-not-is_as_planned-clause-planned : goal.returns-then-not-is_as_planned-clause-planned
returns-then-not-is_as_planned-clause-planned c =
    let words = c.args.words.now in
    let buffer = c.loop-buffer.buffer in
    let puts = all_puts buffer c.args.plans.now in
    let within : buffer < words.buffers = omega (arith, c.loop-buffer-test.true, c.buffers-buffer-end.ensures.value) in
    let same : raised_in words c.loop-buffer.all buffer ≡ raised_in words c.args.all.now buffer =
    raised_entries-same words c.args.all.now c.loop-buffer.all buffer (places_to Bookkeep words.contexts) c.loop-buffer.invariant.same in (
      (λ bad. absurd (cc)),
      (λ planned. subst IsTrue c.if-not-is_as_planned.true (c.is_as_planned.ensures.planned.1 (subst (λ (es : List Entry). AgreesAbove c.args.reach.now es puts) (sym same) (planned buffer within)))),
    )
