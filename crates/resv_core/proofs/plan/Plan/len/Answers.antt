use Rattle.std.proofs.Common.{◌*◌, ℕ, length, sym, ap, ◌∙◌}
use Rattle.resv_core.proofs.RoundActs.{length-rounds}
use Rattle.resv_core.proofs.plan.Plan.len.Goals as goal

pub returns : goal.returns
returns c = let plan = c.self.inside in record {
  count =
      ap (λ (n : ℕ). n * plan.times) (c.len.ensures ∙ plan.acts.ok.0)
      ∙ sym (length-rounds plan.acts.items 1 plan.times)
      ∙ ap length c.self.view_is;
}
