use Rattle.std.proofs.Common.{sym, ap, ◌∙◌}
use Rattle.syncfile_core.proofs.Causes.{IfOk-then}
use Rattle.explore_core.specs.Shortening.{cost_by}
use Rattle.explore_core.proofs.rerun.Rerun.cost.Goals as goal

pub returns-in-Near : goal.returns-in-Near
returns-in-Near c = record {
  cost = IfOk-then c.overtaken_through.result c.overtaken_through.ensures.through (λ n is has on.
      is has on ∙ ap (λ a. cost_by c.args.plan.now c.args.purpose.now.shown a c.args.self.now.gone.items) (sym c.in-Near.is));
}
