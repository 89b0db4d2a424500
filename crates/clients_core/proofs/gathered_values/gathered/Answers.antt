use Rattle.std.proofs.Common.{◌≡◌, ◌+◌, ◌-◌, ◌<◌, ◌≤◌, ℕ, List, length, sym, ap, ◌∙◌, subst, arith}
use Rattle.std.proofs.lemmas.List.{length-set, length-replicate}
use Rattle.point_core.specs.declared.context.TheConstants.{CONTEXTS}
use Rattle.point_core.specs.Reach.{value_at, with_value}
use Rattle.point_core.proofs.Values.{value_at-replicate}
use Rattle.words_core.specs.theorem.Layout.{value_word}
use Rattle.words_core.specs.theorem.Seat.{SeatModel, added_to}
use Rattle.clients_core.proofs.Gathering.{HasOnlyLoaded, HasOnlyLoaded-none, HasOnlyLoaded-more, added_to-HasOnlyLoaded, raised_to-HasOnlyLoaded, values-more, past-more, raised_from_zero}
use Rattle.clients_core.proofs.gathered_values.gathered.Goals as goal

pub loop-index-init : goal.loop-index-init
loop-index-init c = record {
  loaded = HasOnlyLoaded-none c.args.all.now;
  values = λ ctx low high. absurd (omega arith);
  past = λ ctx low. ap (λ (reach : List ℕ). value_at reach ctx) c.zero-reach.ensures ∙ value_at-replicate CONTEXTS ctx;
  full = ap (λ (reach : List ℕ). length reach) c.zero-reach.ensures ∙ length-replicate {A = ℕ} CONTEXTS 0;
}

pub loop-index-preserved : goal.loop-index-preserved
loop-index-preserved c =
    let first = c.args.all.now in
    let seat = c.loop-index.all in
    let reach = c.loop-index.reach in
    let n = c.loop-index.index in
    let ctx = c.at-ctx.result in
    let value = c.value-value.result in
    let before = c.loop-index.invariant in
    let is : ctx ≡ n + 1 = c.at-ctx.ensures in
    let fits : ctx ≤ length reach = omega arith in
    let after : c.raise_to.new.self ≡ with_value reach ctx value = c.raise_to.ensures.value ∙ raised_from_zero reach ctx value (before.past ctx (omega arith)) in
    record {
      loaded = subst (λ (s : SeatModel). HasOnlyLoaded first s) (sym c.value-value.ensures.entered) (HasOnlyLoaded-more first seat (value_word ctx) value before.loaded);
      values = subst (λ (r : List ℕ). (k : ℕ) → 1 ≤ k → k ≤ n + 1 → value_at r k ≡ added_to first k) (sym after) (values-more first seat reach n ctx value is fits before.loaded c.value-value.ensures.state before.values);
      past = subst (λ (r : List ℕ). (k : ℕ) → n + 1 < k → value_at r k ≡ 0) (sym after) (past-more reach n ctx value is before.past);
      full = ap (λ (r : List ℕ). length r) after ∙ (length-set reach (ctx - 1) value ∙ before.full);
    }

pub returns-clause-stepped : goal.returns-clause-stepped
returns-clause-stepped c = (c.loop-index.invariant.loaded.0, c.loop-index.invariant.loaded.1)

pub returns-clause-same : goal.returns-clause-same
returns-clause-same c = λ ctx. added_to-HasOnlyLoaded c.args.all.now c.loop-index.all ctx c.loop-index.invariant.loaded

pub returns-clause-raises : goal.returns-clause-raises
returns-clause-raises c = λ w. raised_to-HasOnlyLoaded c.args.all.now c.loop-index.all w c.loop-index.invariant.loaded
