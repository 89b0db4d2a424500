use Rattle.std.proofs.Common.{arith}
use Rattle.resv_core.proofs.RoundActs.{acts-once, rounds_of-once}
use Rattle.resv_core.proofs.plan.Plan.of.Goals as goal

pub invariant_of-result : goal.invariant_of-result
invariant_of-result c = let acts = c.args.acts in acts-once acts.items (omega (arith, acts.ok.0, acts.ok.1, acts.small))

pub returns : goal.returns
returns c = record { acts = rounds_of-once c.args.acts.items }
