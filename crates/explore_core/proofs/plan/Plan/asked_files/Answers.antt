use Rattle.std.proofs.Common.{ℕ, Vec, List, map, ap, ◌∙◌, subst}
use Rattle.std.specs.Global.{Global}
use Rattle.std.specs.List.{list_any}
use Rattle.explore_core.specs.declared.plan.Step.{Step}
use Rattle.explore_core.specs.Schedule.{Lines}
use Rattle.explore_core.specs.Search.{client_asks, Adds}
use Rattle.explore_core.proofs.Asking.{asked-all}
use Rattle.explore_core.proofs.plan.Plan.asked_files.Goals as goal

pub returns : goal.returns
returns c = record {
  asked =
      let clients = c.as_slice.ensures.value in
      let last = c.as_slice-2.ensures.value in
      let first = subst (λ (names : List (List ℕ)). Adds (λ name. list_any (λ (lines : Vec Step Global). client_asks name lines.items) c.as_slice.result.now) names c.add_of_clients.new.asked.items) c.new-asked.ensures.items c.in_ok-add_of_clients.ensures.adds in
      asked-all c.args.self.now c.as_slice.result.now c.as_slice-2.result.now _ _
      (ap (map (λ (lines : Vec Step Global). lines.items)) clients ∙ ap (λ (p : Lines). p.clients) c.self.view_is) (last ∙ ap (λ (p : Lines). p.last) c.self.view_is) first c.in_ok-add_of_commands.ensures.adds;
}
