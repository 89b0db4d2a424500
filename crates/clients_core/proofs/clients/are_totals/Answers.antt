use Rattle.std.proofs.Common.{rules, ◌≡◌, ◌<◌, length, get_or, sym, ap, ◌∙◌, arith}
use Rattle.point_core.specs.Reach.{value_at}
use Rattle.resv_core.specs.Settled.{increments_of}
use Rattle.clients_core.proofs.Adding.{values_of-more, value_at-values_of}
use Rattle.clients_core.proofs.clients.are_totals.Goals as goal

pub loop-index-preserved : goal.loop-index-preserved
loop-index-preserved c =
    let reach = c.args.reach.now in
    let plans = c.args.plans.now in
    let i = c.loop-index.index in
    let acts = c.index-plans-index.result in
    let low : i < length plans = search rules in
    let here : acts ≡ get_or plans i acts = search rules in
    let total : value_at reach c.at.result ≡ increments_of acts = sym c.get.ensures.value ∙ search rules in
    values_of-more reach plans i c.at.result acts low (omega arith) (total ∙ ap increments_of here) c.loop-index.invariant

pub returns-then-not-is_total : goal.returns-then-not-is_total
returns-then-not-is_total c =
    let reach = c.args.reach.now in
    let plans = c.args.plans.now in
    let i = c.loop-index.index in
    let acts = c.index-plans-index.result in
    let low : i < length plans = search rules in
    let here : acts ≡ get_or plans i acts = search rules in (
      (λ no. search rules),
      (λ same. c.if-not-is_total.ensures.1 (c.get.ensures.value ∙ value_at-values_of reach plans i c.at.result acts low (omega arith) same ∙ ap increments_of (sym here))),
    )
