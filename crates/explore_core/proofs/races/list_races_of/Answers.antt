use Rattle.std.proofs.Common.{ℕ, arith}
use Rattle.explore_core.specs.Access.{RaceAt}
use Rattle.explore_core.specs.Found.{ListsRace}
use Rattle.explore_core.specs.Search.{standing_at}
use Rattle.explore_core.proofs.Levels.{Grows-refl, Grows-trans}
use Rattle.explore_core.proofs.Settling.{each-more}
use Rattle.explore_core.proofs.races.list_races_of.Goals as goal

pub loop-one-init : goal.loop-one-init
loop-one-init c = record { grows = Grows-refl c.args.plan.now c.args.depth c.args.found.now; lists = λ one few. absurd (omega (arith, few)) }

pub returns-in_err-list_race-clause-grows : goal.returns-in_err-list_race-clause-grows
returns-in_err-list_race-clause-grows c = Grows-trans c.loop-one.invariant.grows c.list_race.ensures.grows

pub loop-one-preserved : goal.loop-one-preserved
loop-one-preserved c =
    let before = c.loop-one.invariant in
    let grows = c.list_race.ensures.grows in
    let plan = c.args.plan.now in
    let other = c.args.other in
    let made = (standing_at plan c.args.state.now).made in
    let P : ℕ → Type 0 = λ one. RaceAt plan made one other → ListsRace c.list_race.new.found.races.items one other in
    record {
      grows = Grows-trans before.grows grows;
      lists = λ one few. each-more P 0 c.loop-one.one (λ k from below race. grows.races k other (before.lists k below race)) c.in_ok-list_race.ensures.lists one (omega arith) few;
    }

pub returns-clause-lists : goal.returns-clause-lists
returns-clause-lists c = λ one race. c.loop-one.invariant.lists one (omega (arith, race.before, c.loop-one-test.false)) race
