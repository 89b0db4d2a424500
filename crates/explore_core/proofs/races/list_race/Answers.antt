use Rattle.std.proofs.Common.{List, ℕ, refl, sym, ◌∙◌, subst}
use Rattle.std.proofs.lemmas.Bool.{false≢true}
use Rattle.explore_core.specs.Access.{IsRace, RaceAt}
use Rattle.explore_core.specs.Search.{standing_at}
use Rattle.explore_core.proofs.Levels.{Grows-refl}
use Rattle.explore_core.proofs.ListingRaces.{Grows-race}
use Rattle.explore_core.proofs.races.list_race.Goals as goal

pub returns-then-not-is_race-clause-grows : goal.returns-then-not-is_race-clause-grows
returns-then-not-is_race-clause-grows c = Grows-refl c.args.plan.now c.args.depth c.args.found.now

pub returns-then-not-is_race-clause-lists : goal.returns-then-not-is_race-clause-lists
returns-then-not-is_race-clause-lists c = λ race.
    let made = c.as_slice.ensures.value ∙ c.requires.state.made in
    absurd (false≢true (sym c.if-not-is_race.true ∙ c.is_race.ensures.all (subst (λ (ms : List ℕ). RaceAt c.args.plan.now ms c.args.one c.args.other) (sym made) race)))

pub returns-in_err-record-clause-grows : goal.returns-in_err-record-clause-grows
returns-in_err-record-clause-grows c =
    let plan = c.args.plan.now in
    let state = c.args.state.now in
    let made = c.as_slice.ensures.value ∙ c.requires.state.made in
    let both = subst (λ (ms : List ℕ). RaceAt plan ms c.args.one c.args.other) made (c.is_race.ensures.is c.if-not-is_race.false) in
    let happens : IsRace plan state.schedule.items c.args.one c.args.other = record { now = standing_at plan state; comes = c.requires.state.comes; both = both } in
    Grows-race plan c.args.depth c.args.found.now _ c.args.one c.args.other c.as_slice-2.result.now c.record.ensures.records
    (subst (λ (s : List ℕ). IsRace plan s c.args.one c.args.other) (sym c.as_slice-2.ensures.value) happens) refl refl refl refl refl

pub returns-clause-grows : goal.returns-clause-grows
returns-clause-grows c =
    let plan = c.args.plan.now in
    let state = c.args.state.now in
    let made = c.as_slice.ensures.value ∙ c.requires.state.made in
    let both = subst (λ (ms : List ℕ). RaceAt plan ms c.args.one c.args.other) made (c.is_race.ensures.is c.if-not-is_race.false) in
    let happens : IsRace plan state.schedule.items c.args.one c.args.other = record { now = standing_at plan state; comes = c.requires.state.comes; both = both } in
    Grows-race plan c.args.depth c.args.found.now _ c.args.one c.args.other c.as_slice-2.result.now c.record.ensures.records
    (subst (λ (s : List ℕ). IsRace plan s c.args.one c.args.other) (sym c.as_slice-2.ensures.value) happens) refl refl refl refl refl

pub returns-clause-lists : goal.returns-clause-lists
returns-clause-lists c = λ race. c.in_ok-record.ensures.lists
