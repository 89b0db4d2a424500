-- Sorted lists: the elements determine the list.
use Rattle.std.proofs.Common.{◌≡◌, ◌≢◌, ℕ, zero, suc, ◌<◌, ◌≤◌, Bool, true, false, cond, nat_eq, nat_lt, if◌then◌else◌, refl, sym, ap, ◌∙◌, subst, List, [], ◌∷◌, ◌++◌, length, map, get_or, inl, inr, ◌⊎◌, arith, Contains}
use Rattle.std.specs.Bool.{⊤}
use Rattle.std.specs.List.{IsDistinct, AllByRecursion}
use Rattle.std.specs.List.Sorted.{IsPermutation, IsNonDecreasingBy}
use Rattle.std.specs.Map.{keys_of, remove_entry}
use Rattle.std.specs.Cmp.{nat_eq_equiv}
use Rattle.std.proofs.lemmas.Bool.{ltb-true, ltb-false, lt-ltb, false≢true}
use Rattle.std.proofs.lemmas.List.Sorted.{IsPermutation-refl, IsPermutation-sym, IsPermutation-trans, IsPermutation-cons, IsPermutation-middle, IsPermutation-map, Contains-permutation}
use Rattle.std.proofs.lemmas.Map.Keys.{IsDistinct-IsPermutation, IsDistinct-head, IsDistinct-tail}
use Rattle.syncfile_core.specs.Numbered.{put_in, by_number}

module _ {X : Type 0} (number : X → ℕ) where
  -- each number is greater than those before it
  abbrev pub Rises : List X → Type 0
  Rises [] = ⊤
  Rises (x ∷ xs) = AllByRecursion (λ y. number x < number y) xs × Rises xs

  below-all : (a b : ℕ) (xs : List X) → a < b → AllByRecursion (λ y. b < number y) xs → AllByRecursion (λ y. a < number y) xs
  below-all a b [] low all = tt
  below-all a b (x ∷ xs) low all = (omega (arith, all.0), below-all a b xs low all.1)

  All-put_in : (P : X → Type 0) (x : X) (ys : List X) → P x → AllByRecursion P ys → AllByRecursion P (put_in number x ys)
  All-put_in P x [] own all = (own, tt)
  All-put_in P x (y ∷ ys) own all = by (nat_lt (number x) (number y)) (All-put_in P x ys own all.1)
    where
      by : (b : Bool) → AllByRecursion P (put_in number x ys) → AllByRecursion P (if b then x ∷ y ∷ ys else y ∷ put_in number x ys)
      by true rest = (own, all)
      by false rest = (all.0, rest)

  differ : (a b : ℕ) → nat_eq a b ≡ false → a ≢ b
  differ a b apart is = false≢true (sym apart ∙ ap (nat_eq a) (sym is) ∙ nat_eq_equiv.refl a)

  Rises-put_in : (x : X) (ys : List X) → AllByRecursion (λ y. nat_eq (number x) (number y) ≡ false) ys → Rises ys → Rises (put_in number x ys)
  Rises-put_in x [] apart rises = (tt, tt)
  Rises-put_in x (y ∷ ys) apart rises = by (nat_lt (number x) (number y)) refl (Rises-put_in x ys apart.1 rises.1)
    where
      by : (b : Bool) → nat_lt (number x) (number y) ≡ b → Rises (put_in number x ys) → Rises (if b then x ∷ y ∷ ys else y ∷ put_in number x ys)
      by true less rest =
          let low = ltb-true (number x) (number y) less in
          ((low, below-all (number x) (number y) ys low rises.0), rises)
      by false not_less rest =
          let high = ltb-false (number x) (number y) not_less in
          let apart' = differ (number x) (number y) apart.0 in
          let low : number y < number x = omega (arith, high, apart') in
          (All-put_in (λ z. number y < number z) x ys low rises.0, rest)

  pub IsPermutation-put_in : (x : X) (ys : List X) → IsPermutation (x ∷ ys) (put_in number x ys)
  IsPermutation-put_in x [] = IsPermutation-refl (x ∷ [])
  IsPermutation-put_in x (y ∷ ys) = by (nat_lt (number x) (number y)) (IsPermutation-put_in x ys)
    where
      by : (b : Bool) → IsPermutation (x ∷ ys) (put_in number x ys) → IsPermutation (x ∷ y ∷ ys) (if b then x ∷ y ∷ ys else y ∷ put_in number x ys)
      by true rest = IsPermutation-refl (x ∷ y ∷ ys)
      by false rest =
          IsPermutation-trans (x ∷ y ∷ ys) (y ∷ x ∷ ys) (y ∷ put_in number x ys)
          (IsPermutation-sym (y ∷ x ∷ ys) (x ∷ y ∷ ys) (IsPermutation-middle (y ∷ []) x ys))
          (IsPermutation-cons y (x ∷ ys) (put_in number x ys) rest)

  pub IsPermutation-by_number : (xs : List X) → IsPermutation xs (by_number number xs)
  IsPermutation-by_number [] = IsPermutation-refl []
  IsPermutation-by_number (x ∷ xs) =
      IsPermutation-trans (x ∷ xs) (x ∷ by_number number xs) (by_number number (x ∷ xs))
      (IsPermutation-cons x xs (by_number number xs) (IsPermutation-by_number xs))
      (IsPermutation-put_in x (by_number number xs))

  apart-map : (n : ℕ) (xs : List X) → AllByRecursion (λ m. nat_eq n m ≡ false) (map number xs) → AllByRecursion (λ x. nat_eq n (number x) ≡ false) xs
  apart-map n [] apart = tt
  apart-map n (x ∷ xs) apart = (apart.0, apart-map n xs apart.1)

  pub Rises-by_number : (xs : List X) → IsDistinct nat_eq (map number xs) → Rises (by_number number xs)
  Rises-by_number [] distinct = tt
  Rises-by_number (x ∷ xs) distinct =
      let sorted = IsPermutation-by_number (x ∷ xs) in
      let rest = IsDistinct-tail nat_eq (number x) (map number xs) distinct in
      let all = IsPermutation-cons x xs (by_number number xs) (IsPermutation-by_number xs) in
      let apart = IsDistinct-head nat_eq (number x) (map number (by_number number xs)) (IsDistinct-IsPermutation nat_eq nat_eq_equiv.symm (map number (x ∷ xs)) (map number (x ∷ by_number number xs)) (IsPermutation-map number (x ∷ xs) (x ∷ by_number number xs) all) distinct) in
      Rises-put_in x (by_number number xs) (apart-map (number x) (by_number number xs) apart) (Rises-by_number xs rest)

  -- two lists with rising numbers

  all-at : (P : X → Type 0) (xs : List X) (k : ℕ) (d : X) → k < length xs → AllByRecursion P xs → P (get_or xs k d)
  all-at P [] k d low all = absurd (omega (arith, low))
  all-at P (x ∷ xs) zero d low all = all.0
  all-at P (x ∷ xs) (suc k) d low all = all-at P xs k d (omega (arith, low)) all.1

  first_or_later : (y : X) (ys : List X) (x : X) → Contains (y ∷ ys) x → (y ≡ x) ⊎ Contains ys x
  first_or_later y ys x (zero, low, is) = inl is
  first_or_later y ys x (suc k, low, is) = inr (k, omega (arith, low), is)

  later-above : (x : X) (xs : List X) (y : X) → Rises (x ∷ xs) → Contains xs y → number x < number y
  later-above x xs y rises (k, low, is) = subst (λ z. number x < number z) is (all-at (λ z. number x < number z) xs k y low rises.0)

  abbrev Holds : List X → List X → Type 0
  Holds xs ys = (x : X) → Contains xs x → Contains ys x

  same_first : (x : X) (xs : List X) (y : X) (ys : List X) → Rises (x ∷ xs) → Rises (y ∷ ys) → (y ≡ x) ⊎ Contains ys x → (x ≡ y) ⊎ Contains xs y → x ≡ y
  same_first x xs y ys rises rises' (inl is) there = sym is
  same_first x xs y ys rises rises' (inr here) (inl is) = is
  same_first x xs y ys rises rises' (inr here) (inr there) =
      let low = later-above y ys x rises' here in
      let high = later-above x xs y rises there in
      absurd (omega (arith, low, high))

  same_rest : (x : X) (xs : List X) (y : X) (ys : List X) → Rises (x ∷ xs) → x ≡ y → Holds (x ∷ xs) (y ∷ ys) → Holds xs ys
  same_rest x xs y ys rises is holds z (k, low, at) = by (first_or_later y ys z (holds z (suc k, omega (arith, low), at)))
    where
      by : (y ≡ z) ⊎ Contains ys z → Contains ys z
      by (inl same) =
          let above = later-above x xs z rises (k, low, at) in
          absurd (let equal = ap number (is ∙ same) in omega (arith, above, equal))
      by (inr later) = later

  same_elements : (xs ys : List X) → Rises xs → Rises ys → Holds xs ys → Holds ys xs → xs ≡ ys
  same_elements [] [] rises rises' there back = refl
  same_elements [] (y ∷ ys) rises rises' there back = let found = back y (0, omega arith, refl) in absurd (omega (arith, found.1))
  same_elements (x ∷ xs) [] rises rises' there back = let found = there x (0, omega arith, refl) in absurd (omega (arith, found.1))
  same_elements (x ∷ xs) (y ∷ ys) rises rises' there back =
      let is = same_first x xs y ys rises rises' (first_or_later y ys x (there x (0, omega arith, refl))) (first_or_later x xs y (back y (0, omega arith, refl))) in
      let rest = same_elements xs ys rises.1 rises'.1 (same_rest x xs y ys rises is there) (same_rest y ys x xs rises' (sym is) back) in
      ap (λ z. z ∷ xs) is ∙ ap (λ zs. y ∷ zs) rest

  -- two rising lists of the same elements are equal
  pub same_rising : (xs ys : List X) → Rises xs → Rises ys → IsPermutation xs ys → xs ≡ ys
  same_rising xs ys rises rises' moved = same_elements xs ys rises rises' (λ x. Contains-permutation xs ys x moved) (λ x. Contains-permutation ys xs x (IsPermutation-sym xs ys moved))

  -- the sorted list doesn't depend on the order of the elements
  pub by_number-permuted : (xs ys : List X) → IsDistinct nat_eq (map number xs) → IsPermutation xs ys → by_number number xs ≡ by_number number ys
  by_number-permuted xs ys distinct moved =
      let distinct' = IsDistinct-IsPermutation nat_eq nat_eq_equiv.symm (map number xs) (map number ys) (IsPermutation-map number xs ys moved) distinct in
      same_rising (by_number number xs) (by_number number ys) (Rises-by_number xs distinct) (Rises-by_number ys distinct')
      (IsPermutation-trans (by_number number xs) xs (by_number number ys) (IsPermutation-sym xs (by_number number xs) (IsPermutation-by_number xs))
      (IsPermutation-trans xs ys (by_number number ys) moved (IsPermutation-by_number ys)))

  -- a rising list of the same elements is the sorted list
  pub by_number-is : (xs ys : List X) → IsDistinct nat_eq (map number xs) → IsPermutation xs ys → Rises ys → by_number number xs ≡ ys
  by_number-is xs ys distinct moved rises =
      same_rising (by_number number xs) ys (Rises-by_number xs distinct) rises
      (IsPermutation-trans (by_number number xs) xs ys (IsPermutation-sym xs (by_number number xs) (IsPermutation-by_number xs)) moved)

  -- a list whose numbers don't fall and are distinct is rising
  above-from : (x : X) (xs : List X) → ((k : ℕ) (d : X) → k < length xs → number x ≤ number (get_or xs k d)) → AllByRecursion (λ y. nat_eq (number x) (number y) ≡ false) xs → AllByRecursion (λ y. number x < number y) xs
  above-from x [] up apart = tt
  above-from x (y ∷ ys) up apart =
      let high = up 0 y (omega arith) in
      let other = differ (number x) (number y) apart.0 in
      (omega (arith, high, other), above-from x ys (λ k d low. up (suc k) d (omega (arith, low))) apart.1)

  pub Rises-from : (xs : List X) → IsNonDecreasingBy number xs → IsDistinct nat_eq (map number xs) → Rises xs
  Rises-from [] up distinct = tt
  Rises-from (x ∷ xs) up distinct = (
    above-from x xs (λ k d low. up 0 (suc k) d (omega arith) (omega (arith, low))) (apart-map (number x) xs (IsDistinct-head nat_eq (number x) (map number xs) distinct)),
    Rises-from xs (λ i j d rises low. up (suc i) (suc j) d (omega (arith, rises)) (omega (arith, low))) (IsDistinct-tail nat_eq (number x) (map number xs) distinct),
  )

  -- the element with the greatest number goes last
  put_in-last : (x : X) (ys : List X) (last : X) → number x < number last → put_in number x (ys ++ last ∷ []) ≡ put_in number x ys ++ last ∷ []
  put_in-last x [] last low = ap (λ b. if b then x ∷ last ∷ [] else last ∷ x ∷ []) (lt-ltb (number x) (number last) low)
  put_in-last x (y ∷ ys) last low = by (nat_lt (number x) (number y)) (put_in-last x ys last low)
    where
      by : (b : Bool) → put_in number x (ys ++ last ∷ []) ≡ put_in number x ys ++ last ∷ [] → (if b then x ∷ y ∷ ys ++ last ∷ [] else y ∷ put_in number x (ys ++ last ∷ [])) ≡ (if b then x ∷ y ∷ ys else y ∷ put_in number x ys) ++ last ∷ []
      by true rest = refl
      by false rest = ap (λ zs. y ∷ zs) rest

  pub by_number-last : (xs : List X) (last : X) → AllByRecursion (λ x. number x < number last) xs → by_number number (xs ++ last ∷ []) ≡ by_number number xs ++ last ∷ []
  by_number-last [] last low = refl
  by_number-last (x ∷ xs) last low = ap (put_in number x) (by_number-last xs last low.1) ∙ put_in-last x (by_number number xs) last low.0

-- an entry is inserted, and removed again
pub remove_entry-put_in : {K X : Type 0} (number : K × X → ℕ) (test : K → Bool) (e : K × X) (es : List (K × X)) → test e.0 ≡ true → AllByRecursion (λ key. test key ≡ false) (keys_of es) → remove_entry test (put_in number e es) ≡ es
remove_entry-put_in number test e [] here apart = ap (λ b. cond b [] (e ∷ [])) here
remove_entry-put_in number test e (d ∷ es) here apart = by (nat_lt (number e) (number d)) (remove_entry-put_in number test e es here apart.1)
  where
    by : (b : Bool) → remove_entry test (put_in number e es) ≡ es → remove_entry test (if b then e ∷ d ∷ es else d ∷ put_in number e es) ≡ d ∷ es
    by true rest = ap (λ b. cond b (d ∷ es) (e ∷ remove_entry test (d ∷ es))) here
    by false rest = ap (λ b. cond b (put_in number e es) (d ∷ remove_entry test (put_in number e es))) apart.0 ∙ ap (λ zs. d ∷ zs) rest
