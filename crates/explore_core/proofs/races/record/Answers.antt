use Rattle.std.proofs.Common.{◌++◌, ◌∷◌, [], List, refl, sym, ap, ◌∙◌, subst, inl, inr, Contains, arith}
use Rattle.std.proofs.lemmas.Bool.{false≢true}
use Rattle.std.proofs.lemmas.List.Elements.{Contains-append_right}
use Rattle.explore_core.specs.declared.found.Race.{Race}
use Rattle.explore_core.specs.Found.{ListsRace}
use Rattle.explore_core.proofs.ListingRaces.{ListsRace-any, any-ListsRace}
use Rattle.explore_core.proofs.races.record.Goals as goal

pub returns-then-is_listed-clause-records : goal.returns-then-is_listed-clause-records
returns-then-is_listed-clause-records c = inl refl

pub returns-then-is_listed-clause-lists : goal.returns-then-is_listed-clause-lists
returns-then-is_listed-clause-lists c =
    subst (λ (rs : List Race). ListsRace rs c.args.one c.args.other) c.as_slice.ensures.value
    (ListsRace-any c.as_slice.result.now c.args.one c.args.other (sym c.is_listed.ensures ∙ c.if-is_listed.true))

pub returns-in_err-reserve-clause-records : goal.returns-in_err-reserve-clause-records
returns-in_err-reserve-clause-records c = inl c.reserve.ensures.items

pub returns-in_err-schedule-clause-records : goal.returns-in_err-schedule-clause-records
returns-in_err-schedule-clause-records c = inl c.reserve.ensures.items

pub returns-clause-records : goal.returns-clause-records
returns-clause-records c =
    let race : Race = record { one = c.args.one; other = c.args.other; schedule = c.in_ok-schedule.schedule } in
    let pushed = c.push_reserved.ensures.items ∙ ap (λ (rs : List Race). rs ++ race ∷ []) c.reserve.ensures.items in
    inr (
      race,
      pushed,
      record { one_is = refl; other_is = refl; schedule_is = c.in_ok-schedule.ensures.shown },
      λ lists. false≢true (sym c.if-is_listed.false ∙ c.is_listed.ensures
          ∙ any-ListsRace c.as_slice.result.now c.args.one c.args.other (subst (λ (rs : List Race). ListsRace rs c.args.one c.args.other) (sym c.as_slice.ensures.value) lists)),
    )

pub returns-clause-lists : goal.returns-clause-lists
returns-clause-lists c =
    let before = c.args.races.now.items in
    let race : Race = record { one = c.args.one; other = c.args.other; schedule = c.in_ok-schedule.schedule } in
    let pushed = c.push_reserved.ensures.items ∙ ap (λ (rs : List Race). rs ++ race ∷ []) c.reserve.ensures.items in
    (race, subst (λ (rs : List Race). Contains rs race) (sym pushed) (Contains-append_right before (race ∷ []) race (0, omega arith, refl)), refl, refl)
