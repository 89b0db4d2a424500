use Rattle.std.proofs.Common.{rules, ◌≡◌, ◌++◌, ◌∷◌, [], Some, slice_get, sym, ap, ◌∙◌, subst}
use Rattle.explore_core.specs.Search.{Begins}
use Rattle.explore_core.proofs.Parting.{Begins-refl, Begins-same, pushed-at}
use Rattle.explore_core.proofs.table.Table.intern.Goals as goal

pub returns-in-Some-clause-begins : goal.returns-in-Some-clause-begins
returns-in-Some-clause-begins g c = Begins-refl c.args.self.now

pub returns-in_default-insert-clause-begins : goal.returns-in_default-insert-clause-begins
returns-in_default-insert-clause-begins g c = subst (Begins c.args.self.now) (sym c.self.view_is) (Begins-refl c.args.self.now)

pub returns-in_err-push-clause-begins : goal.returns-in_err-push-clause-begins
returns-in_err-push-clause-begins g c =
    let same : c.push.new.self.items ≡ c.args.self.now = search rules in
    Begins-same c.args.self.now c.push.new.self.items same

pub returns-clause-there : goal.returns-clause-there
returns-clause-there g c =
    let old = c.self.inside.parts.items in
    subst (λ parts. slice_get parts c.len-place.result ≡ Some c.args.part) (sym c.in_ok-push.ensures.items)
    (ap (slice_get (old ++ c.args.part ∷ [])) (c.len-place.ensures ∙ c.self.inside.parts.ok.0) ∙ pushed-at old c.args.part)

pub returns-clause-begins : goal.returns-clause-begins
returns-clause-begins g c = record { added = c.args.part ∷ []; is = c.in_ok-push.ensures.items ∙ ap (λ parts. parts ++ c.args.part ∷ []) c.self.view_is }
