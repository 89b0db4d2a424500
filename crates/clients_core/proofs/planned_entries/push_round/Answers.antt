use Rattle.std.proofs.Common.{List, ◌++◌, sym, ap, ◌∙◌, append_assoc, take}
use Rattle.point_core.specs.declared.entry.Entry.{Entry}
use Rattle.resv_core.specs.Rounds.{round_of}
use Rattle.resv_core.specs.Settled.{put_by, puts_of}
use Rattle.clients_core.proofs.PlansOfRounds.{puts-round_more}
use Rattle.clients_core.proofs.planned_entries.push_round.Goals as goal

pub loop-act-preserved : goal.loop-act-preserved
loop-act-preserved c =
    let buffer = c.args.buffer in
    let before = c.args.entries.now.items in
    let done = puts_of buffer (round_of (take c.loop-act.act-index c.args.acts.now) c.args.number) in
    let more = put_by buffer c.in_round.result in
    c.in_ok-push_put.ensures.put
    ∙ ap (λ (es : List Entry). es ++ more) c.loop-act.invariant
    ∙ append_assoc before done more
    ∙ ap (λ (es : List Entry). before ++ es) (sym (puts-round_more buffer c.args.acts.now c.args.number c.loop-act.act-index c.act-item.result c.in_round.result c.loop-act-test.true c.act-item.is c.in_round.ensures))
