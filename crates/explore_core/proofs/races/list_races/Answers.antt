use Rattle.std.proofs.Common.{◌≡◌, length, ap, ◌∙◌, arith}
use Rattle.explore_core.specs.Schedule.{Lines}
use Rattle.explore_core.specs.Search.{HasRacesOf, standing_at}
use Rattle.explore_core.proofs.Finding.{past-within}
use Rattle.explore_core.proofs.Levels.{Grows-refl, Grows-trans}
use Rattle.explore_core.proofs.Settling.{each-more}
use Rattle.explore_core.proofs.races.list_races.Goals as goal

pub loop-other-init : goal.loop-other-init
loop-other-init c = record { grows = Grows-refl c.args.plan.now c.args.depth c.args.found.now; lists = λ other few. absurd (omega (arith, few)) }

pub returns-in_err-list_races_of-clause-grows : goal.returns-in_err-list_races_of-clause-grows
returns-in_err-list_races_of-clause-grows c = Grows-trans c.loop-other.invariant.grows c.list_races_of.ensures.grows

pub loop-other-preserved : goal.loop-other-preserved
loop-other-preserved c =
    let before = c.loop-other.invariant in
    let grows = c.list_races_of.ensures.grows in
    record {
      grows = Grows-trans before.grows grows;
      lists = λ other few. each-more (HasRacesOf c.args.plan.now c.list_races_of.new.found (standing_at c.args.plan.now c.args.state.now)) 0 c.loop-other.other
          (λ k from below one race. grows.races one k (before.lists k below one race)) c.in_ok-list_races_of.ensures.lists other (omega arith) few;
    }

pub returns-clause-lists : goal.returns-clause-lists
returns-clause-lists c = λ other one race.
    let plan = c.args.plan.now in
    let count : c.len-other-end.result ≡ length plan.accesses = c.len-other-end.ensures ∙ c.plan.inside.accesses.ok.0 ∙ ap (λ (p : Lines). length p.accesses) c.plan.view_is in
    let few = past-within plan.accesses other race.second race.second_is in
    c.loop-other.invariant.lists other (omega (arith, few, count, c.loop-other-test.false)) one race
