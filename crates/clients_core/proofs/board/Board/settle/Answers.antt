use Rattle.std.proofs.Common.{◌≡◌, ℕ, List, map, refl, sym, ap, ◌∙◌, subst, IsTrue, false}
use Rattle.std.specs.List.{range_with_len}
use Rattle.std.proofs.lemmas.Result.{err_from_is_err_and}
use Rattle.point_core.specs.Reach.{value_at}
use Rattle.resv_core.specs.Settled.{gathered_values}
use Rattle.clients_core.specs.Board.{AreAsPlanned}
use Rattle.clients_core.proofs.Gathering.{tables_of-same_values}
use Rattle.clients_core.proofs.Planning.{AreAsPlanned-same, tables-planned, value_at-gathered, values-gathered}
use Rattle.clients_core.proofs.board.Board.settle.Goals as goal

pub returns-then-not-are_as_planned-clause-torn : goal.returns-then-not-are_as_planned-clause-torn
returns-then-not-are_as_planned-clause-torn c =
    let words = c.args.words.now in
    let first = c.args.all.now in
    let reach = c.in_ok-reach.reach in
    let values = gathered_values words.contexts first in
    let same = value_at-gathered reach first words.contexts c.in_ok-reach.ensures.values c.in_ok-reach.ensures.past in
    let later = λ (planned : AreAsPlanned words first c.args.plans.now values). AreAsPlanned-same words c.gathered_open.new.all first c.args.plans.now values reach (λ w. sym (c.in_ok-reach.ensures.raises w)) (λ ctx. sym (same ctx)) planned in (
      (λ is both. let bad : IsTrue false = subst IsTrue c.if-not-are_as_planned.true (c.are_as_planned.ensures.planned.1 (later both.1)) in absurd (cc)),
      (λ no. refl),
    )

pub returns-in_err-values-clause-torn : goal.returns-in_err-values-clause-torn
returns-in_err-values-clause-torn c =
    let words = c.args.words.now in
    let first = c.args.all.now in
    let reach = c.in_ok-reach.reach in
    let same = value_at-gathered reach first words.contexts c.in_ok-reach.ensures.values c.in_ok-reach.ensures.past in
    let planned = AreAsPlanned-same words first c.gathered_open.new.all c.args.plans.now reach (gathered_values words.contexts first) c.in_ok-reach.ensures.raises same (c.are_as_planned.ensures.planned.0 c.if-not-are_as_planned.false) in
    let memory = c.in_err-values.ensures.memory in
    let p = err_from_is_err_and c.from_residual-in_err-values.result c.from_residual-in_err-values.ensures.1 in
    rw (p.1, p.2, memory) ((λ bad. absurd (cc)), (λ no. absurd (no (c.in_ok-reach.ensures.none_closed, planned))))

pub returns-in_err-tables-clause-torn : goal.returns-in_err-tables-clause-torn
returns-in_err-tables-clause-torn c =
    let words = c.args.words.now in
    let first = c.args.all.now in
    let reach = c.in_ok-reach.reach in
    let same = value_at-gathered reach first words.contexts c.in_ok-reach.ensures.values c.in_ok-reach.ensures.past in
    let planned = AreAsPlanned-same words first c.gathered_open.new.all c.args.plans.now reach (gathered_values words.contexts first) c.in_ok-reach.ensures.raises same (c.are_as_planned.ensures.planned.0 c.if-not-are_as_planned.false) in
    let memory = c.in_err-tables.ensures.memory in
    let p = err_from_is_err_and c.from_residual-in_err-tables.result c.from_residual-in_err-tables.ensures.1 in
    rw (p.1, p.2, memory) ((λ bad. absurd (cc)), (λ no. absurd (no (c.in_ok-reach.ensures.none_closed, planned))))

pub returns-clause-torn : goal.returns-clause-torn
returns-clause-torn c =
    let words = c.args.words.now in
    let first = c.args.all.now in
    let reach = c.in_ok-reach.reach in
    let same = value_at-gathered reach first words.contexts c.in_ok-reach.ensures.values c.in_ok-reach.ensures.past in
    let planned = AreAsPlanned-same words first c.gathered_open.new.all c.args.plans.now reach (gathered_values words.contexts first) c.in_ok-reach.ensures.raises same (c.are_as_planned.ensures.planned.0 c.if-not-are_as_planned.false) in
    ((λ bad. absurd (cc)), (λ no. absurd (no (c.in_ok-reach.ensures.none_closed, planned))))

pub returns-clause-values : goal.returns-clause-values
returns-clause-values c =
    let reach = c.in_ok-reach.reach in
    c.of.ensures
    ∙ c.in_ok-values.ensures.values
    ∙ ap (λ (n : ℕ). map (value_at reach) (range_with_len 1 n)) c.contexts.ensures.value
    ∙ values-gathered reach c.args.all.now c.args.words.now.contexts c.in_ok-reach.ensures.values

pub returns-clause-tables : goal.returns-clause-tables
returns-clause-tables c =
    let words = c.args.words.now in
    let first = c.args.all.now in
    let middle = c.are_as_planned.new.all in
    let reach = c.in_ok-reach.reach in
    let plans = c.args.plans.now in
    let values : c.of.result ≡ gathered_values words.contexts first =
    c.of.ensures
    ∙ c.in_ok-values.ensures.values
    ∙ ap (λ (n : ℕ). map (value_at reach) (range_with_len 1 n)) c.contexts.ensures.value
    ∙ values-gathered reach first words.contexts c.in_ok-reach.ensures.values in
    let same = value_at-gathered reach first words.contexts c.in_ok-reach.ensures.values c.in_ok-reach.ensures.past in
    let planned = AreAsPlanned-same words middle c.gathered_open.new.all plans reach reach (λ w. sym (c.are_as_planned.ensures.same w)) (λ ctx. refl) (c.are_as_planned.ensures.planned.0 c.if-not-are_as_planned.false) in
    c.of-2.ensures
    ∙ c.in_ok-tables.ensures.tables
    ∙ tables-planned words middle plans reach planned
    ∙ tables_of-same_values words.buffers plans reach c.of.result (λ ctx low. ap (λ (vs : List ℕ). value_at vs ctx) values ∙ same ctx)
