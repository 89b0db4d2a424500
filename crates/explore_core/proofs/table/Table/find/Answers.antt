use Rattle.std.proofs.Common.{◌≡◌, Some, slice_get, refl, ap, ◌∙◌, subst}
use Rattle.std.proofs.lemmas.Option.{slice_get_read}
use Rattle.explore_core.proofs.table.Table.find.Goals as goal

pub returns : goal.returns
returns g c =
    let place = c.in-Some.place.now in
    let there = c.in-Some-get.there.now in
    let low = rw c.deref.ensures.value at c.in-Some-get.ensures.lookup.3.0 in
    let at = rw c.deref.ensures.value at c.in-Some-get.ensures.lookup.1 in
    let got = slice_get_read _ _ place there refl low at ∙ ap Some (c.is_same.ensures c.if-not-is_same.false) in
    subst (λ parts. slice_get parts place ≡ Some c.args.part.now) c.self.view_is got
