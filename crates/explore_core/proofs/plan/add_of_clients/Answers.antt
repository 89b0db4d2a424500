use Rattle.std.proofs.Common.{List, ℕ, subst}
use Rattle.std.specs.List.{list_any}
use Rattle.std.proofs.lemmas.List.{take_all}
use Rattle.std.specs.Prelude.{Vec}
use Rattle.std.specs.Global.{Global}
use Rattle.explore_core.specs.declared.plan.Step.{Step}
use Rattle.explore_core.specs.Search.{client_asks, Adds}
use Rattle.explore_core.proofs.Asking.{Adds-none, Adds-next}
use Rattle.explore_core.proofs.plan.add_of_clients.Goals as goal

pub loop-lines-init : goal.loop-lines-init
loop-lines-init c = Adds-none c.args.asked.now.items

pub loop-lines-preserved : goal.loop-lines-preserved
loop-lines-preserved c =
    Adds-next (λ (name : List ℕ). λ (lines : Vec Step Global). client_asks name lines.items) c.args.clients.now c.loop-lines.lines-index c.lines-item.result _ _ _ c.loop-lines-test.true c.lines-item.is c.loop-lines.invariant (subst (λ (lines : List Step). Adds (λ name. client_asks name lines) c.loop-lines.asked.items c.add_of_lines.new.asked.items) c.as_slice.ensures.value c.in_ok-add_of_lines.ensures.adds)

pub returns : goal.returns
returns c = record {
  adds =
      subst (λ xs. Adds (λ name. list_any (λ (lines : Vec Step Global). client_asks name lines.items) xs) c.args.asked.now.items c.loop-lines.asked.items) (take_all c.loop-lines.lines-index c.args.clients.now c.loop-lines-test.false) c.loop-lines.invariant;
}
