-- Totals over a list, properties of each element, and both after a change of one element.
use Rattle.std.proofs.Common.{◌≡◌, ◌≢◌, ℕ, zero, suc, ◌+◌, ◌≤◌, List, [], ◌∷◌, ◌++◌, map, set, sym, refl, ap, ◌∙◌, subst, arith}
use mathlib.Core.Option.{some, some-injective, some-ne-none}
use lib.ListN.{get_elem?}
use Rattle.std.proofs.lemmas.List.{map-set}
use Rattle.atomic_table.proofs.Lists.{set_again, at_map, set_else}
use Rattle.words_core.specs.theorem.Trace.{total}
use Rattle.words_core.specs.Rule.{Each}

module _ {A : Type 0} where
  pub total-set : (f : A → ℕ) (xs : List A) (i : ℕ) (x y : A) → get_elem? xs i ≡ some x → total f (set xs i y) + f x ≡ total f xs + f y
  total-set f [] i x y e = absurd (some-ne-none x (sym e))
  total-set f (a ∷ xs) zero x y e = let s : f a ≡ f x = ap f (some-injective a x e) in omega arith
  total-set f (a ∷ xs) (suc i) x y e = let r : total f (set xs i y) + f x ≡ total f xs + f y = total-set f xs i x y e in omega arith

  pub total-append : (f : A → ℕ) (xs ys : List A) → total f (xs ++ ys) ≡ total f xs + total f ys
  total-append f [] ys = omega arith
  total-append f (x ∷ xs) ys = let r : total f (xs ++ ys) ≡ total f xs + total f ys = total-append f xs ys in omega arith

  pub total_at : (f : A → ℕ) (xs : List A) (i : ℕ) (x : A) → get_elem? xs i ≡ some x → f x ≤ total f xs
  total_at f [] i x e = absurd (some-ne-none x (sym e))
  total_at f (a ∷ xs) zero x e = let s : f a ≡ f x = ap f (some-injective a x e) in omega arith
  total_at f (a ∷ xs) (suc i) x e = let r : f x ≤ total f xs = total_at f xs i x e in omega arith

  pub Each-set : (P : A → Type 0) (xs : List A) (i : ℕ) (y : A) → Each P xs → P y → Each P (set xs i y)
  Each-set P [] i y h p = tt
  Each-set P (x ∷ xs) zero y h p = (p, h.1)
  Each-set P (x ∷ xs) (suc i) y h p = (h.0, Each-set P xs i y h.1 p)

  pub Each-at : (P : A → Type 0) (xs : List A) (i : ℕ) (x : A) → Each P xs → get_elem? xs i ≡ some x → P x
  Each-at P [] i x h e = absurd (some-ne-none x (sym e))
  Each-at P (a ∷ xs) zero x h e = subst P (some-injective a x e) h.0
  Each-at P (a ∷ xs) (suc i) x h e = Each-at P xs i x h.1 e

  pub Each-last : (P : A → Type 0) (xs : List A) (y : A) → Each P xs → P y → Each P (xs ++ y ∷ [])
  Each-last P [] y h p = (p, tt)
  Each-last P (x ∷ xs) y h p = (h.0, Each-last P xs y h.1 p)

  pub Each-weaker : (P Q : A → Type 0) (xs : List A) → ((x : A) → P x → Q x) → Each P xs → Each Q xs
  Each-weaker P Q [] f h = tt
  Each-weaker P Q (x ∷ xs) f h = (f x h.0, Each-weaker P Q xs f h.1)

  -- an element is replaced by one with an equal value of f
  pub map-set_same : {B : Type 0} (f : A → B) (xs : List A) (i : ℕ) (x y : A) → get_elem? xs i ≡ some x → f y ≡ f x → map f (set xs i y) ≡ map f xs
  map-set_same {B} f xs i x y at same = map-set f xs i y ∙ ap (λ (b : B). set (map f xs) i b) same ∙ set_again (map f xs) i (f x) (at_map f xs i x at)

  -- one element is joined from two, and the other is emptied
  pub total-joined : (f : A → ℕ) (xs : List A) (i j : ℕ) (x y both empty : A) → get_elem? xs i ≡ some x → j ≢ i → get_elem? xs j ≡ some y → f both ≡ f x + f y → f empty ≡ 0 → total f (set (set xs i both) j empty) ≡ total f xs
  total-joined f xs i j x y both empty at apart at' sum none =
      let one : total f (set xs i both) + f x ≡ total f xs + f both = total-set f xs i x both at in
      let two : total f (set (set xs i both) j empty) + f y ≡ total f (set xs i both) + f empty = total-set f (set xs i both) j y empty (set_else xs i j both apart ∙ at') in
      omega arith

  pub total_two : (f : A → ℕ) (xs : List A) (i j : ℕ) (x y : A) → get_elem? xs i ≡ some x → j ≢ i → get_elem? xs j ≡ some y → f x + f y ≤ total f xs
  total_two f [] i j x y at apart at' = absurd (some-ne-none x (sym at))
  total_two f (a ∷ xs) zero zero x y at apart at' = absurd (apart refl)
  total_two f (a ∷ xs) zero (suc j) x y at apart at' = let s : f a ≡ f x = ap f (some-injective a x at) in let r : f y ≤ total f xs = total_at f xs j y at' in omega arith
  total_two f (a ∷ xs) (suc i) zero x y at apart at' = let s : f a ≡ f y = ap f (some-injective a y at') in let r : f x ≤ total f xs = total_at f xs i x at in omega arith
  total_two f (a ∷ xs) (suc i) (suc j) x y at apart at' = let r : f x + f y ≤ total f xs = total_two f xs i j x y at (λ e. apart (ap suc e)) at' in omega arith

  total_none : (f g : A → ℕ) (xs : List A) → Each (λ u. f u ≡ 0 → g u ≡ 0) xs → total f xs ≡ 0 → total g xs ≡ 0
  total_none f g [] h z = refl
  total_none f g (a ∷ xs) h z = let one : g a ≡ 0 = h.0 (omega arith) in let more : total g xs ≡ 0 = total_none f g xs h.1 (omega arith) in omega arith

  -- if f is 0 at all elements but one, and g is 0 whenever f is, g is 0 at all but that one
  pub total_alone : (f g : A → ℕ) (xs : List A) (i : ℕ) (x : A) → get_elem? xs i ≡ some x → Each (λ u. f u ≡ 0 → g u ≡ 0) xs → total f xs ≤ f x → total g xs ≡ g x
  total_alone f g [] i x at h le = absurd (some-ne-none x (sym at))
  total_alone f g (a ∷ xs) zero x at h le =
      let s : f a ≡ f x = ap f (some-injective a x at) in let r : g a ≡ g x = ap g (some-injective a x at) in
      let more : total g xs ≡ 0 = total_none f g xs h.1 (omega arith) in omega arith
  total_alone f g (a ∷ xs) (suc i) x at h le =
      let s : f x ≤ total f xs = total_at f xs i x at in let one : g a ≡ 0 = h.0 (omega arith) in
      let more : total g xs ≡ g x = total_alone f g xs i x at h.1 (omega arith) in omega arith

  pub total-map : {B : Type 0} (f : B → ℕ) (g : A → B) (xs : List A) → total f (map g xs) ≡ total (λ (x : A). f (g x)) xs
  total-map f g [] = refl
  total-map f g (x ∷ xs) = ap (λ (n : ℕ). f (g x) + n) (total-map f g xs)
