-- A name at an index of a list of distinct names.
use Rattle.std.proofs.Common.{◌≡◌, ℕ, ◌+◌, ◌<◌, zero, suc, true, false, cond, sym, ap, ◌∙◌, subst, List, [], ◌∷◌, length, get_or, slice_get, position, Some, arith}
use Rattle.std.specs.List.{IsDistinct, AllByRecursion, position_from}
use Rattle.std.specs.Cmp.Lexicographic.{nat_list_eq_equiv, same_text}
use Rattle.std.proofs.lemmas.Iterator.Adapters.{position_from-zero}
use Rattle.std.proofs.lemmas.Option.{none-some, same_Some, slice_get-get_or}
use Rattle.point_core.specs.Named.{same_name}

AllByRecursion-at : {X : Type 0} (P : X → Type 0) (xs : List X) (k : ℕ) (x : X) → AllByRecursion P xs → slice_get xs k ≡ Some x → P x
AllByRecursion-at P [] k x all at = absurd (none-some x at)
AllByRecursion-at P (y ∷ ys) zero x all at = subst P (same_Some y x at) all.0
AllByRecursion-at P (y ∷ ys) (suc k) x all at = AllByRecursion-at P ys k x all.1 at

position_from-at : (names : List (List ℕ)) (name : List ℕ) (i k : ℕ) → IsDistinct same_name names → slice_get names k ≡ Some name → position_from (same_name name) i names ≡ Some (i + k)
unfolding IsDistinct
position_from-at [] name i k distinct at = absurd (none-some name at)
position_from-at (n ∷ ns) name i zero distinct at =
    let here : same_name name n ≡ true = ap (same_name name) (same_Some n name at) ∙ nat_list_eq_equiv.refl name in
    ap (λ b. cond b (Some i) (position_from (same_name name) (i + 1) ns)) here ∙ ap Some (omega arith)
position_from-at (n ∷ ns) name i (suc k) distinct at =
    let apart : same_name name n ≡ false = nat_list_eq_equiv.symm name n ∙ AllByRecursion-at (λ m. same_name n m ≡ false) ns k name distinct.0 at in
    ap (λ b. cond b (Some i) (position_from (same_name name) (i + 1) ns)) apart
    ∙ position_from-at ns name (i + 1) k distinct.1 at
    ∙ ap Some (omega arith)

-- a name is found at the index where it is
pub position-at : (names : List (List ℕ)) (name there : List ℕ) (k : ℕ) → IsDistinct same_name names → k < length names → there ≡ get_or names k there → same_name there name ≡ true → Some k ≡ position (same_name name) names
position-at names name there k distinct low at same =
    let found : slice_get names k ≡ Some name = slice_get-get_or names k there low ∙ ap Some (sym at ∙ same_text there name (sym same)) in
    sym (position_from-zero (same_name name) names ∙ position_from-at names name 0 k distinct found ∙ ap Some (omega arith))
