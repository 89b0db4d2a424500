use Rattle.std.proofs.Common.{List, ap, ◌∙◌}
use Rattle.resv_core.specs.declared.plan.Act.{Act}
use Rattle.resv_core.specs.Rounds.{rounds_of}
use Rattle.resv_core.proofs.plan.Plan.as_slice.Goals as goal

pub returns : goal.returns
returns c = let plan = c.self.inside in record {
  round = (plan.times, ap (λ (xs : List Act). rounds_of xs plan.times) c.as_slice.ensures.value ∙ c.self.view_is);
}
