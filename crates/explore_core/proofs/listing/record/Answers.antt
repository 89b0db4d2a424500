use Rattle.std.proofs.Common.{◌++◌, ◌∷◌, [], refl, sym, ap, ◌∙◌, subst, inl, inr, Contains, arith}
use Rattle.std.proofs.lemmas.Bool.{false≢true}
use Rattle.std.proofs.lemmas.List.Elements.{Contains-append_right}
use Rattle.explore_core.specs.declared.found.Given.{Given}
use Rattle.explore_core.specs.Found.{Lists}
use Rattle.explore_core.proofs.listing.record.Goals as goal

pub returns-then-is_listed-clause-records : goal.returns-then-is_listed-clause-records
returns-then-is_listed-clause-records c = inl refl

pub returns-then-is_listed-clause-lists : goal.returns-then-is_listed-clause-lists
returns-then-is_listed-clause-lists c =
    subst (λ list. Lists list c.args.client c.args.place c.args.answer) c.as_slice.ensures.value (c.is_listed.ensures.listed c.if-is_listed.true)

pub returns-in_default-clause-records : goal.returns-in_default-clause-records
returns-in_default-clause-records c = inl c.prepare.ensures.same

pub returns-clause-records : goal.returns-clause-records
returns-clause-records c =
    let given : Given = record { client = c.args.client; place = c.args.place; answer = c.args.answer; schedule = c.in-Ok.schedule } in
    let pushed = c.push_reserved.ensures.items ∙ ap (λ gs. gs ++ given ∷ []) c.prepare.ensures.same in
    inr (
      given,
      pushed,
      record { client_is = refl; place_is = refl; answer_is = refl; schedule_is = c.in-Ok.ensures.shown },
      λ lists. false≢true (sym c.if-is_listed.false
          ∙ c.is_listed.ensures.all (subst (λ list. Lists list c.args.client c.args.place c.args.answer) (sym c.as_slice.ensures.value) lists)),
    )

pub returns-clause-lists : goal.returns-clause-lists
returns-clause-lists c =
    let before = c.args.list.now.items in
    let given : Given = record { client = c.args.client; place = c.args.place; answer = c.args.answer; schedule = c.in-Ok.schedule } in
    let pushed = c.push_reserved.ensures.items ∙ ap (λ gs. gs ++ given ∷ []) c.prepare.ensures.same in
    (given, subst (λ list. Contains list given) (sym pushed) (Contains-append_right before (given ∷ []) given (0, omega arith, refl)), refl, refl, refl)
