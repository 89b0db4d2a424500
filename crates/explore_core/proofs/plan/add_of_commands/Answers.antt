use Rattle.std.proofs.Common.{List, ℕ, subst}
use Rattle.std.specs.List.{list_any}
use Rattle.std.proofs.lemmas.List.{take_all}
use Rattle.explore_core.specs.Search.{asks_for, Adds}
use Rattle.explore_core.proofs.Asking.{Adds-none, Adds-next}
use Rattle.explore_core.proofs.plan.add_of_commands.Goals as goal

pub loop-command-init : goal.loop-command-init
loop-command-init c = Adds-none c.args.asked.now.items

pub loop-command-preserved : goal.loop-command-preserved
loop-command-preserved c =
    Adds-next (λ (name : List ℕ). asks_for name) c.args.commands.now c.loop-command.command-index c.command-item.result _ _ _ c.loop-command-test.true c.command-item.is c.loop-command.invariant c.in_ok-add_of.ensures.adds

pub returns : goal.returns
returns c = record {
  adds =
      subst (λ xs. Adds (λ name. list_any (asks_for name) xs) c.args.asked.now.items c.loop-command.asked.items) (take_all c.loop-command.command-index c.args.commands.now c.loop-command-test.false) c.loop-command.invariant;
}
