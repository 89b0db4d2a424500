use Rattle.std.proofs.Common.{◌≡◌, List, true, sym, ap, ◌∙◌}
use Rattle.resv_core.specs.declared.plan.Act.{Act}
use Rattle.resv_core.specs.Rounds.{is_repeatable}
use Rattle.resv_core.proofs.RoundActs.{repeatable-passes}
use Rattle.resv_core.proofs.plan.Plan.repeated.Goals as goal

pub invariant_of-result : goal.invariant_of-result
invariant_of-result c =
    let acts = c.args.acts.items in
    let passes : is_repeatable c.args.acts.items c.args.times ≡ true =
    ap (λ (xs : List Act). is_repeatable xs c.args.times) (sym c.as_slice.ensures.value)
    ∙ sym c.is_repeatable.ensures
    ∙ c.if-not-is_repeatable.false in
    repeatable-passes acts c.args.times passes
