use Rattle.std.proofs.Common.{◌++◌, ◌∷◌, [], take, sym, ap, ◌∙◌, subst}
use Rattle.std.proofs.lemmas.List.{take_more, take_all}
use Rattle.explore_core.specs.Schedule.{Leads}
use Rattle.explore_core.specs.Search.{IsAt}
use Rattle.explore_core.proofs.Scheduling.{Leads-split}
use Rattle.explore_core.proofs.position.Position.go_along.Goals as goal

pub loop-client-init : goal.loop-client-init
loop-client-init c = λ from to at leads. subst (IsAt c.args.self.now) leads at

pub loop-client-preserved : goal.loop-client-preserved
loop-client-preserved c = λ from to at leads.
    let plan = c.args.plan.now in
    let schedule = c.args.schedule.now in
    let i = c.loop-client.client-index in
    let client = c.from.result in
    let more = take_more schedule i _ c.loop-client-test.true ∙ ap (λ d. take i schedule ++ d ∷ []) (sym c.from.ensures) in
    let split = Leads-split plan from (take i schedule) (client ∷ []) to (subst (λ s. Leads plan from s to) more leads) in
    let last : Leads plan split.0 (client ∷ []) to = split.2 in
    subst (IsAt c.go_again.new.self) last.2 (c.in_ok-go_again.ensures.after split.0 last.0 (c.loop-client.invariant from split.0 at split.1) last.1)

pub returns : goal.returns
returns c = record {
  along = λ from to at leads.
      let all = take_all c.loop-client.client-index c.args.schedule.now c.loop-client-test.false in
      c.loop-client.invariant from to at (subst (λ s. Leads c.args.plan.now from s to) (sym all) leads);
}
