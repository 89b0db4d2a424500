use Rattle.std.proofs.Common.{List, ℕ, subst}
use Rattle.std.specs.List.{list_any}
use Rattle.std.proofs.lemmas.List.{take_all}
use Rattle.explore_core.specs.declared.plan.Step.{Step}
use Rattle.explore_core.specs.Search.{asks_for, Adds}
use Rattle.explore_core.proofs.Asking.{Adds-none, Adds-next}
use Rattle.explore_core.proofs.plan.add_of_lines.Goals as goal

pub loop-line-init : goal.loop-line-init
loop-line-init c = Adds-none c.args.asked.now.items

pub loop-line-preserved : goal.loop-line-preserved
loop-line-preserved c =
    Adds-next (λ (name : List ℕ). λ (line : Step). asks_for name line.command) c.args.lines.now c.loop-line.line-index c.line-item.result _ _ _ c.loop-line-test.true c.line-item.is c.loop-line.invariant c.in_ok-add_of.ensures.adds

pub returns : goal.returns
returns c = record {
  adds =
      subst (λ xs. Adds (λ name. list_any (λ (line : Step). asks_for name line.command) xs) c.args.asked.now.items c.loop-line.asked.items) (take_all c.loop-line.line-index c.args.lines.now c.loop-line-test.false) c.loop-line.invariant;
}
