-- A vector whose elements are shortened in their place.
use Rattle.std.proofs.Common.{◌≡◌, sym, ap, ◌∙◌, subst, List, length, Vec}
use Rattle.std.proofs.lemmas.List.{length-map, with_items_is}
use Rattle.std.specs.Global.{Global}
use Rattle.std.specs.Vec.{with_items}
use Rattle.explore_core.specs.Shortening.{AreShortened}

pub AreShortened-items : {X Y : Type 0} (f : X → Y) (P : X → Type 0) (old : Vec X Global) (was now : List X) → was ≡ old.items → length was ≡ old.len
    → AreShortened f P was now → AreShortened f P old.items (with_items old now).items
AreShortened-items f P old was now same size is =
    let count : length now ≡ old.len = sym (length-map now f) ∙ ap length is.same ∙ length-map was f ∙ size in
    let here : AreShortened f P old.items now = subst (λ xs. AreShortened f P xs now) same is in
    subst (AreShortened f P old.items) (sym (with_items_is old now count)) here
