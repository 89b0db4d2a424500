use Rattle.std.proofs.Common.{rules, ◌≡◌, ℕ, map, sym, ap, ◌∙◌, subst, IsTrue, false}
use Rattle.std.specs.List.{range_with_len}
use Rattle.point_core.specs.Reach.{value_at}
use Rattle.words_core.specs.theorem.Seat.{SeatModel, added_to, raised_to}
use Rattle.resv_core.specs.Shared.{HasStepped}
use Rattle.resv_core.specs.Settled.{gathered_values, values_of}
use Rattle.clients_core.specs.Working.{HasOnlyLooked}
use Rattle.clients_core.proofs.Adding.{gathered_values-loaded}
use Rattle.clients_core.proofs.Settling.{settled_of-answer}
use Rattle.clients_core.proofs.Working.{IsTorn-refused, IsTorn-values}
use Rattle.clients_core.proofs.clients.settle.Goals as goal

pub returns-clause-settled : goal.returns-clause-settled
returns-clause-settled g c =
    let contexts = c.args.words.now.contexts in
    let plans = c.args.plans.now in
    let reach = c.gathered-reach.result in
    let after = c.gathered-reach.new.all in
    let true : IsTrue c.are_totals.result = search rules in
    let total : gathered_values contexts after ≡ values_of plans =
    gathered_values-loaded reach c.in-Ok.all after contexts c.gathered-reach.ensures.same c.gathered-reach.ensures.values
    ∙ ap (λ (n : ℕ). map (value_at reach) (range_with_len 1 n)) (sym c.requires.plans.0)
    ∙ c.are_totals.ensures.0 true in
    settled_of-answer c.settle.result c.args.words.now.buffers plans (gathered_values contexts after) total c.settle.ensures.values c.settle.ensures.tables

pub returns-then-not-are_totals-clause-torn : goal.returns-then-not-are_totals-clause-torn
returns-then-not-are_totals-clause-torn g c = λ _.
    let own : c.in-Ok.all ≡ c.args.all = search rules in
    IsTorn-values (g.T.SharedTable.settles c.args.table.now) c.args.plans.now c.args.all c.gathered-reach.result c.args.words.now.contexts c.requires.plans.0
    (λ ctx low high. c.gathered-reach.ensures.values ctx low high ∙ ap (λ (s : SeatModel). added_to s ctx) own)
    (λ same. let bad : IsTrue false = subst IsTrue c.if-not-are_totals.true (c.are_totals.ensures.1 same) in absurd (cc))

pub returns-clause-torn : goal.returns-clause-torn
returns-clause-torn g c =
    let own : c.in-Ok.all ≡ c.args.all = search rules in
    let looked : HasOnlyLooked c.args.all c.gathered-reach.new.all = record {
      stepped = subst (λ (s : SeatModel). HasStepped s c.gathered-reach.new.all) own c.gathered-reach.ensures.stepped;
      added = λ ctx. c.gathered-reach.ensures.same ctx ∙ ap (λ (s : SeatModel). added_to s ctx) own;
      raised = λ w. c.gathered-reach.ensures.raises w ∙ ap (λ (s : SeatModel). raised_to s w) own;
    } in
    IsTorn-refused (g.T.SharedTable.settles c.args.table.now) c.args.plans.now c.args.all c.gathered-reach.new.all c.settle.result looked c.settle.ensures.settled
