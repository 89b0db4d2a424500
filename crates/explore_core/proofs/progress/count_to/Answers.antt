use Rattle.std.proofs.Common.{◌≡◌, ap, ◌∙◌, length, set, arith}
use Rattle.std.proofs.lemmas.List.{with_items_is, length-set}
use Rattle.explore_core.proofs.progress.count_to.Goals as goal

pub returns : goal.returns
returns c =
    let old = c.args.made.now in
    let put = c.set.ensures ∙ ap (λ ps. set ps c.args.client c.args.place) c.as_mut_slice.ensures.value in
    let size : length c.set.new.made ≡ old.len = omega (arith, ap length put, length-set old.items c.args.client c.args.place, ap length c.as_mut_slice.ensures.value, c.as_mut_slice.ensures.len) in
    with_items_is old c.set.new.made size ∙ put
