-- Names are found by number as they were given.
use Rattle.std.proofs.Common.{◌≡◌, ℕ, zero, suc, Bool, true, false, true≢false, cond, refl, sym, ap, ◌∙◌, List, [], ◌∷◌, ◌++◌, length, slice_get, Option, None, Some}
use Rattle.std.specs.Prelude.{option_map, find, is_some, unwrap_or}
use Rattle.std.specs.List.{list_any}
use Rattle.std.specs.Str.{bytes_eq}
use Rattle.std.proofs.lemmas.Slice.Eq.{bytes_eq-Decides}

module _ {X : Type 0} where
  pub find-passes : (p : X → Bool) (xs : List X) (x : X) → Some x ≡ find p xs → p x ≡ true
  find-passes p [] x is = absurd (true≢false (ap is_some is))
  find-passes p (y ∷ ys) x is = by (p y) refl is (find-passes p ys x)
    where
      by : (b : Bool) → p y ≡ b → Some x ≡ cond b (Some y) (find p ys) → (Some x ≡ find p ys → p x ≡ true) → p x ≡ true
      by true passes is rest = ap p (ap (λ o. unwrap_or o y) is) ∙ passes
      by false fails is rest = rest is

  pub get-push : (xs : List X) (x : X) → slice_get (xs ++ x ∷ []) (length xs) ≡ Some x
  get-push [] x = refl
  get-push (y ∷ ys) x = get-push ys x

  pub get-kept : (xs : List X) (y : X) (n : ℕ) (x : X) → slice_get xs n ≡ Some x → slice_get (xs ++ y ∷ []) n ≡ Some x
  get-kept [] y n x is = absurd (true≢false (ap is_some (sym is)))
  get-kept (z ∷ zs) y zero x is = is
  get-kept (z ∷ zs) y (suc n) x is = get-kept zs y n x is

module _ {K : Type 0} (items : K → List ℕ) where
  abbrev named : List K → ℕ → Option (List ℕ)
  named ks n = option_map items (slice_get ks n)

  pub found-named : (ks : List K) (name : List ℕ) (n index : ℕ) (k : K) → n ≡ index → slice_get ks index ≡ Some k → Some k ≡ find (λ q. bytes_eq name (items q)) ks → named ks n ≡ Some name
  found-named ks name n index k at stored found =
      ap (named ks) at ∙ ap (option_map items) stored ∙ ap Some (sym ((bytes_eq-Decides name (items k)).0 (find-passes (λ q. bytes_eq name (items q)) ks k found)))

  pub pushed : (ks new : List K) (name : List ℕ) (k : K) → items k ≡ name → false ≡ list_any (λ q. bytes_eq name (items q)) ks → new ≡ cond (list_any (λ q. bytes_eq (items k) (items q)) ks) ks (ks ++ k ∷ []) → new ≡ ks ++ k ∷ []
  pushed ks new name k is absent at =
      at ∙ ap (λ x. cond (list_any (λ q. bytes_eq x (items q)) ks) ks (ks ++ k ∷ [])) is ∙ ap (λ b. cond b ks (ks ++ k ∷ [])) (sym absent)

  pub new-named : (ks new : List K) (name : List ℕ) (n : ℕ) (k : K) → n ≡ length ks → items k ≡ name → new ≡ ks ++ k ∷ [] → named new n ≡ Some name
  new-named ks new name n k at is grown =
      ap (λ xs. named xs n) grown ∙ ap (named (ks ++ k ∷ [])) at ∙ ap (option_map items) (get-push ks k) ∙ ap Some is

  pub named-kept : (ks new : List K) (k : K) (n : ℕ) (other : List ℕ) → new ≡ ks ++ k ∷ [] → named ks n ≡ Some other → named new n ≡ Some other
  named-kept ks new k n other grown is = ap (λ xs. named xs n) grown ∙ by (slice_get ks n) refl is
    where
      by : (o : Option K) → slice_get ks n ≡ o → option_map items o ≡ Some other → option_map items (slice_get (ks ++ k ∷ []) n) ≡ Some other
      by None e is = absurd (true≢false (ap is_some (sym is)))
      by (Some x) e is = ap (option_map items) (get-kept ks k n x e) ∙ is
