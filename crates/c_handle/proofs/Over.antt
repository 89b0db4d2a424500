-- Lists that are written over others.
use Rattle.std.proofs.Common.{◌≡◌, ℕ, zero, suc, ◌+◌, ◌<◌, ◌≤◌, refl, ap, ◌∙◌, arith, List, [], ◌∷◌, length, map, min, take, drop, get_or, set}
use Rattle.c_handle.specs.Rows.{over}

module _ {A : Type 0} where
  from-suc : (new old rest : List A) (i : ℕ) (x : A) → drop i new ≡ x ∷ rest → i < length old → set (over (take i new) old) i x ≡ over (take (suc i) new) old
  from-suc [] old rest zero x is room = absurd (cc)
  from-suc [] old rest (suc i) x is room = absurd (cc)
  from-suc (y ∷ new) [] rest i x is room = absurd (omega (arith, room))
  from-suc (y ∷ new) (z ∷ old) rest zero x is room = let same : x ≡ y = cc in ap (λ v. v ∷ old) same
  from-suc (y ∷ new) (z ∷ old) rest (suc i) x is room = ap (λ l. y ∷ l) (from-suc new old rest i x is (omega (arith, room)))

  -- another element is written
  pub over-more : (new old rest : List A) (i : ℕ) (x : A) → drop i new ≡ x ∷ rest → i < length old → set (over (take i new) old) i x ≡ over (take (i + 1) new) old
  over-more new old rest i x is room =
      let next : suc i ≡ i + 1 = omega arith in
      from-suc new old rest i x is room ∙ ap (λ k. over (take k new) old) next

  left-suc : (new rest : List A) (i : ℕ) (x : A) → drop i new ≡ x ∷ rest → rest ≡ drop (suc i) new
  left-suc [] rest zero x is = absurd (cc)
  left-suc [] rest (suc i) x is = absurd (cc)
  left-suc (y ∷ new) rest zero x is = let same : rest ≡ new = cc in same
  left-suc (y ∷ new) rest (suc i) x is = left-suc new rest i x is

  pub left-more : (new rest : List A) (i : ℕ) (x : A) → drop i new ≡ x ∷ rest → rest ≡ drop (i + 1) new
  left-more new rest i x is = let next : suc i ≡ i + 1 = omega arith in left-suc new rest i x is ∙ ap (λ k. drop k new) next

  -- as many elements are written as fit, and as there are
  pub over-least : (new old : List A) (i : ℕ) → min (length old) (length new) ≤ i → over (take i new) old ≡ over new old
  over-least [] old zero past = refl
  over-least [] old (suc i) past = refl
  over-least (x ∷ new) [] zero past = refl
  over-least (x ∷ new) [] (suc i) past = refl
  over-least (x ∷ new) (y ∷ old) zero past = absurd (omega (arith, past))
  over-least (x ∷ new) (y ∷ old) (suc i) past = ap (λ l. x ∷ l) (over-least new old i (omega (arith, past)))

module _ {A B : Type 0} (f : A → B) where
  map-suc : (new : List A) (old : List B) (i : ℕ) (d : A) → i < length new → i < length old → set (over (take i (map f new)) old) i (f (get_or new i d)) ≡ over (take (suc i) (map f new)) old
  map-suc [] old i d inside room = absurd (omega (arith, inside))
  map-suc (x ∷ new) [] i d inside room = absurd (omega (arith, room))
  map-suc (x ∷ new) (y ∷ old) zero d inside room = refl
  map-suc (x ∷ new) (y ∷ old) (suc i) d inside room = ap (λ l. f x ∷ l) (map-suc new old i d (omega (arith, inside)) (omega (arith, room)))

  -- another element is written, made from its source
  pub map-more : (new : List A) (old : List B) (i : ℕ) (d : A) → i < length new → i < length old → set (over (take i (map f new)) old) i (f (get_or new i d)) ≡ over (take (i + 1) (map f new)) old
  map-more new old i d inside room =
      let next : suc i ≡ i + 1 = omega arith in
      map-suc new old i d inside room ∙ ap (λ k. over (take k (map f new)) old) next
