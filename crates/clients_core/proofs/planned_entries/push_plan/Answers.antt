use Rattle.std.proofs.Common.{◌+◌, List, ◌++◌, sym, ap, ◌∙◌, append_assoc, arith}
use Rattle.point_core.specs.declared.entry.Entry.{Entry}
use Rattle.resv_core.specs.Rounds.{round_of, rounds_of}
use Rattle.resv_core.specs.Settled.{puts_of}
use Rattle.resv_core.proofs.RoundActs.{acts-in_range}
use Rattle.clients_core.proofs.PlansOfRounds.{puts-more}
use Rattle.clients_core.proofs.planned_entries.push_plan.Goals as goal

pub push_round-requires : goal.push_round-requires
push_round-requires c = record {
  in_range = acts-in_range c.round-round.result.acts.now (c.loop-index.index + 1) c.round-round.result.times (omega arith) c.round-round.ensures.in_range.points;
}

pub loop-index-preserved : goal.loop-index-preserved
loop-index-preserved c =
    let buffer = c.args.buffer in
    let acts = c.round-round.result.acts.now in
    let n = c.loop-index.index in
    let before = c.args.entries.now.items in
    let done = puts_of buffer (rounds_of acts n) in
    let more = puts_of buffer (round_of acts (n + 1)) in
    c.in_ok-push_round.ensures.puts
    ∙ ap (λ (es : List Entry). es ++ more) c.loop-index.invariant
    ∙ append_assoc before done more
    ∙ ap (λ (es : List Entry). before ++ es) (sym (puts-more buffer acts n))
