use Rattle.std.proofs.Common.{sym, ◌∙◌}
use Rattle.explore_core.proofs.Asking.{Adds-same, Adds-push}
use Rattle.explore_core.proofs.plan.add_of.Goals as goal

pub returns-in_default : goal.returns-in_default
returns-in_default c = record {
  adds = Adds-same c.args.command.now c.args.asked.now.items (sym c.asked_file.ensures ∙ c.in_default.is);
}

pub returns : goal.returns
returns c = record {
  adds =
      let before = c.args.asked.now.items in
      Adds-push c.args.command.now c.in-Some.name before _ (sym c.asked_file.ensures ∙ c.in-Some.is) c.in_ok-push.ensures.items;
}
