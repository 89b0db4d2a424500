use Rattle.std.proofs.Common.{◌≡◌, ap, ◌∙◌, subst, [], length, replicate}
use Rattle.desk_core.specs.theorem.Desk.{HasHistory}
use Rattle.explore_core.specs.Schedule.{Lines, beginning, history_along}
use Rattle.explore_core.specs.Search.{standing_of}
use Rattle.explore_core.proofs.Trying.{clients-count}
use Rattle.explore_core.proofs.position.Position.restart.Goals as goal

pub returns : goal.returns
returns c = record {
  at =
      let plan = c.args.plan.now in
      let clients : c.len.result ≡ length plan.clients = c.len.ensures ∙ c.plan.inside.clients.ok.0 ∙ clients-count plan _ (ap (λ (p : Lines). p.clients) c.plan.view_is) in
      let first = c.as_slice.ensures.value ∙ ap (λ (p : Lines). p.first) c.plan.view_is in
      c.in_ok-go_along.ensures.along (beginning plan) (standing_of plan c.args.schedule.now) (record {
        desk = subst (λ cs. HasHistory c.make_all.new.desk (history_along [] cs)) first (c.in_ok-make_all.ensures.along [] c.clear.ensures.empty);
        made = c.in_ok-clear_made.ensures.none ∙ ap (λ n. replicate n 0) clients;
      }) c.requires.comes.leads;
}
