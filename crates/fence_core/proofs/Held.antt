-- Callbacks that are held: none, and one more.
use Rattle.std.proofs.Common.{◌≡◌, ℕ, ◌<◌, nat_eq, Bool, false, refl, sym, ◌∙◌, List, [], ◌∷◌, ◌++◌, length, length-append, arith}
use Rattle.std.specs.List.{list_any, IsDistinct}
use Rattle.std.specs.Cmp.{nat_eq_equiv}
use Rattle.std.proofs.lemmas.Bool.{false≢true}
use Rattle.std.proofs.lemmas.Map.Keys.{IsDistinct-push}
use Rattle.fence_core.specs.declared.callback_list.TheConstants.{CALLBACKS}
use Rattle.fence_core.specs.Callbacks.{AreCallbacks}

pub AreCallbacks-none : (taken : Bool) → AreCallbacks taken []
unfolding IsDistinct
AreCallbacks-none taken = record { distinct = tt; room = omega arith; none = λ is. refl }

pub AreCallbacks-push : {taken : Bool} {cookies : List ℕ} (cookie : ℕ) → AreCallbacks taken cookies → taken ≡ false → list_any (nat_eq cookie) cookies ≡ false → length cookies < CALLBACKS → AreCallbacks taken (cookies ++ cookie ∷ [])
AreCallbacks-push {taken} {cookies} cookie h held new low = record {
  distinct = IsDistinct-push nat_eq_equiv cookies cookie h.distinct new;
  room = let len = length-append cookies (cookie ∷ []) in omega arith;
  none = λ is. absurd (false≢true (sym held ∙ is));
}
