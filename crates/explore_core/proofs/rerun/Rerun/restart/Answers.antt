use Rattle.std.proofs.Common.{sym, ap, subst}
use Rattle.explore_core.specs.Schedule.{ComesTo, beginning}
use Rattle.explore_core.specs.Shortening.{overtaken}
use Rattle.explore_core.proofs.Scheduling.{comes-none}
use Rattle.explore_core.proofs.rerun.Rerun.restart.Goals as goal

pub returns : goal.returns
returns c = record {
  run =
      let plan = c.args.plan.now in
      let none = sym c.clear.ensures.items in
      record {
        to = beginning plan;
        comes = subst (λ s. ComesTo plan s (beginning plan)) none (comes-none plan);
        at = λ on. c.in_ok-restart.ensures.at;
        counted = ap (overtaken plan) none;
      };
}
