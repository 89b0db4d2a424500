-- The runs of elements between the elements that pass a test, from the front of a list.
use Rattle.std.proofs.Common.{◌≡◌, ℕ, ◌+◌, ◌<◌, ◌≤◌, suc, Bool, true, false, not, cond, nat_lt, List, [], ◌∷◌, length, get_or, take, drop, filter, None, Some, unwrap_or, refl, sym, ap, ◌∙◌, arith, rules, drop-cons, add-one, one-add, add-zero, get_or-drop, length-take, length-drop}
use Rattle.std.proofs.Math.Seq.{drop-length, take-length}
use Rattle.std.specs.List.{slice_split, position_or_len, position, after_first}
use Rattle.std.proofs.lemmas.List.Splits.{slice_split_first, slice_split_none}
use Rattle.std.proofs.lemmas.List.Sums.{passes_at_first, fails_before_first}
use Rattle.std.proofs.lemmas.Option.{cond_some}
use Rattle.std.proofs.lemmas.Bool.Decides.{nat_tests}
use Rattle.std.proofs.Math.ListN.{drop_of_length-le}
use Rattle.line_core.specs.Words.{is_word}

module _ (p : ℕ → Bool) where
  abbrev runs : List ℕ → List (List ℕ)
  runs xs = filter is_word (slice_split p xs)

  abbrev start : List ℕ → ℕ
  start xs = position_or_len (λ x. not (p x)) xs

  runs-skip : (x : ℕ) (xs : List ℕ) → p x ≡ true → runs (x ∷ xs) ≡ runs xs
  runs-skip x xs e = rw e refl

  runs-drop_step : (x : ℕ) (xs : List ℕ) (s : Bool) → p x ≡ s → runs (drop (start xs) xs) ≡ runs xs → runs (drop (start (x ∷ xs)) (x ∷ xs)) ≡ runs (x ∷ xs)
  runs-drop_step x xs true e ih =
      let none : start (x ∷ xs) ≡ suc (start xs) = rw (e, one-add) refl in
      rw none (ih ∙ sym (runs-skip x xs e))
  runs-drop_step x xs false e ih =
      let none : start (x ∷ xs) ≡ 0 = rw e refl in
      rw none refl

  pub runs-drop_start : (xs : List ℕ) → runs (drop (start xs) xs) ≡ runs xs
  runs-drop_start [] = refl
  runs-drop_start (x ∷ xs) = runs-drop_step x xs (p x) refl (runs-drop_start xs)

  chosen : (a b i : ℕ) → cond (nat_lt a b) (Some a) None ≡ Some i → (a < b) × (a ≡ i)
  chosen a b i e = let both = cond_some (nat_lt a b) a i e in (grind (arith, nat_tests), both.1)

  pub unchosen : (a b : ℕ) → cond (nat_lt a b) (Some a) None ≡ None → b ≤ a
  unchosen a b e = grind (arith, nat_tests)

  pub runs-none : (xs : List ℕ) → position (λ x. not (p x)) xs ≡ None → runs xs ≡ []
  runs-none xs e =
      let all : drop (start xs) xs ≡ [] = drop_of_length-le xs (unchosen (start xs) (length xs) e) in
      sym (runs-drop_start xs) ∙ ap runs all

  runs-rest : (xs : List ℕ) (n : ℕ) → n < length xs → p (get_or xs n 0) ≡ true → runs (drop n xs) ≡ runs (drop (n + 1) xs)
  runs-rest xs n h e = ap runs (drop-cons xs n 0 h) ∙ runs-skip (get_or xs n 0) (drop (suc n) xs) e ∙ ap (λ k. runs (drop k xs)) (sym (add-one n))

  kept : (x : List ℕ) (more : List (List ℕ)) → 0 < length x → filter is_word (x ∷ more) ≡ x ∷ filter is_word more
  kept x more h = grind (arith, nat_tests)

  -- before and after the first element that passes
  runs-front_within : (xs : List ℕ) → 0 < position_or_len p xs → position_or_len p xs < length xs → runs xs ≡ take (position_or_len p xs) xs ∷ runs (drop (position_or_len p xs) xs)
  runs-front_within xs h w =
      ap (filter is_word) (slice_split_first p xs 0 w) ∙ kept (take (position_or_len p xs) xs) (slice_split p (after_first p xs)) (omega (arith, length-take (position_or_len p xs) xs)) ∙ ap (λ r. take (position_or_len p xs) xs ∷ r) (sym (runs-rest xs (position_or_len p xs) w (passes_at_first p xs 0 w)))

  runs-front_all : (xs : List ℕ) → length xs ≤ position_or_len p xs → 0 < length xs → runs xs ≡ xs ∷ []
  runs-front_all xs e h = ap (filter is_word) (slice_split_none p xs (λ k d w. fails_before_first p xs k d (omega arith))) ∙ kept xs [] h

  runs-front_case : (xs : List ℕ) (n : ℕ) (b : Bool) → nat_lt (position_or_len p xs) (length xs) ≡ b → 0 < position_or_len p xs → 0 < length xs → unwrap_or (cond b (Some (position_or_len p xs)) None) (length xs) ≡ n → runs xs ≡ take n xs ∷ runs (drop n xs)
  runs-front_case xs n true is h l e = rw (sym e) (runs-front_within xs h (grind (arith, nat_tests)))
  runs-front_case xs n false is h l e = rw (sym e, drop-length xs, take-length xs) (runs-front_all xs (grind (arith, nat_tests)) l)

  begins : (xs : List ℕ) → 0 < length xs → p (get_or xs 0 0) ≡ false → 0 < position_or_len p xs
  begins [] l f = absurd (omega arith)
  begins (x ∷ xs) l f = rw f (omega arith)

  pub runs-front : (xs : List ℕ) (n : ℕ) → 0 < length xs → p (get_or xs 0 0) ≡ false → unwrap_or (position p xs) (length xs) ≡ n → runs xs ≡ take n xs ∷ runs (drop n xs)
  runs-front xs n l f e = runs-front_case xs n _ refl (begins xs l f) l e

  fails : (x : ℕ) → not (p x) ≡ true → p x ≡ false
  fails x e = search rules

  -- the elements from the first that does not pass
  pub runs-from : (xs : List ℕ) (i : ℕ) → position (λ x. not (p x)) xs ≡ Some i → runs xs ≡ runs (drop i xs)
  runs-from xs i s =
      let at = chosen (start xs) (length xs) i s in
      sym (runs-drop_start xs) ∙ ap (λ k. runs (drop k xs)) at.1

  pub runs-from_begins : (xs : List ℕ) (i : ℕ) → position (λ x. not (p x)) xs ≡ Some i → (0 < length (drop i xs)) × (p (get_or (drop i xs) 0 0) ≡ false)
  runs-from_begins xs i s =
      let at = chosen (start xs) (length xs) i s in
      let other : p (get_or xs (start xs) 0) ≡ false = fails (get_or xs (start xs) 0) (passes_at_first (λ x. not (p x)) xs 0 at.0) in
      (omega (arith, length-drop i xs), ap p (get_or-drop i xs 0 0 ∙ ap (λ k. get_or xs k 0) (add-zero i ∙ sym at.1)) ∙ other)

  -- the elements before the first that passes, and those after it
  pub slice_split-some : (xs : List ℕ) (i : ℕ) → position p xs ≡ Some i → slice_split p xs ≡ take i xs ∷ slice_split p (drop (i + 1) xs)
  slice_split-some xs i e =
      let at = chosen (position_or_len p xs) (length xs) i e in
      slice_split_first p xs 0 at.0 ∙ ap (λ k. take k xs ∷ slice_split p (drop (k + 1) xs)) at.1

  pub slice_split-none : (xs : List ℕ) → position p xs ≡ None → slice_split p xs ≡ xs ∷ []
  slice_split-none xs e = slice_split_none p xs (λ k d w. fails_before_first p xs k d (omega (arith, unchosen (position_or_len p xs) (length xs) e)))

  pub position-below : (xs : List ℕ) (i : ℕ) → position p xs ≡ Some i → i < length xs
  position-below xs i e =
      let at = chosen (position_or_len p xs) (length xs) i e in
      omega (arith, at.0, at.1)
