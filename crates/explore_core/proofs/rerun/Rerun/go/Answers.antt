use Rattle.std.proofs.Common.{sym, ap, ◌∙◌, subst}
use Rattle.explore_core.specs.Schedule.{ComesTo}
use Rattle.explore_core.specs.Shortening.{overtaken}
use Rattle.explore_core.proofs.Overtaking.{overtaken-push}
use Rattle.explore_core.proofs.Scheduling.{comes-push}
use Rattle.explore_core.proofs.rerun.Rerun.go.Goals as goal

pub returns : goal.returns
returns c = record {
  run = λ before.
      let plan = c.args.plan.now in
      let old = c.args.self.now in
      let client = c.args.client in
      let at = before.at c.if-self.false in
      let goes = c.in_ok-make_next.ensures.goes c.in-Goes.is before.to at in
      let pushed = c.in_ok-push.ensures.items in
      let counted = c.in_ok-overtaken.ensures.with before.to at in
      record {
        to = goes.1;
        comes = subst (λ s. ComesTo plan s goes.1) (sym pushed) (comes-push plan old.gone.items before.to client goes.1 before.comes goes.0 goes.2);
        at = λ on. goes.3;
        counted = overtaken-push plan old.gone.items before.to client old.overtaken c.in_ok-overtaken.overtaken before.comes before.counted counted ∙ ap (overtaken plan) (sym pushed);
      };
}
