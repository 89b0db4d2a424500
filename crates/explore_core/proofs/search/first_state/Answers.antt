use Rattle.std.proofs.Common.{◌≡◌, length, replicate, ap, ◌∙◌}
use Rattle.explore_core.specs.Schedule.{Lines}
use Rattle.explore_core.proofs.Trying.{clients-count, first-state}
use Rattle.explore_core.proofs.search.first_state.Goals as goal

pub returns : goal.returns
returns c =
    let plan = c.args.plan.now in
    let clients : c.len.result ≡ length plan.clients = c.len.ensures ∙ c.plan.inside.clients.ok.0 ∙ clients-count plan _ (ap (λ (p : Lines). p.clients) c.plan.view_is) in
    record { first = first-state plan _ c.new.ensures.items (c.in_ok-clear_made.ensures.none ∙ ap (λ n. replicate n 0) clients) }
