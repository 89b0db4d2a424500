use Rattle.std.proofs.Common.{sym, ap, ◌∙◌}
use Rattle.syncfile_core.proofs.Causes.{IfOk-then}
use Rattle.explore_core.specs.Shortening.{overtaken, through}
use Rattle.explore_core.proofs.Overtaking.{overtaken-push}
use Rattle.explore_core.proofs.rerun.Rerun.overtaken_through.Goals as goal

pub returns-in-Answer : goal.returns-in-Answer
returns-in-Answer c =
    let plan = c.args.plan.now in
    let run = c.args.self.now in
    record {
      through = IfOk-then c.overtaken_with.result c.overtaken_with.ensures.with (λ n with' has on.
          overtaken-push plan run.gone.items has.to c.in-Answer.client run.overtaken n has.comes has.counted (with' has.to (has.at on))
          ∙ ap (λ s. overtaken plan (through s run.gone.items)) (sym c.in-Answer.is));
    }
