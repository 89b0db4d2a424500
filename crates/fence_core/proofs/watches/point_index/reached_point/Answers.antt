use Rattle.std.proofs.Common.{◌∙◌, ap, sym}
use Rattle.point_core.specs.Reach.{value_at}
use Rattle.fence_core.proofs.Above.{reaching-own}
use Rattle.fence_core.proofs.watches.point_index.reached_point.Goals as goal

pub returns-clause-reached : goal.returns-clause-reached
returns-clause-reached c = reaching-own c.args.reach.now (record { ctx = c.at-ctx.result; value = c.at-value.result }) (c.at-value.ensures.value ∙ ap (λ n. value_at c.args.reach.now n) (sym c.at-ctx.ensures))
