-- The part of tables of values that is in use.
use Rattle.std.proofs.Common.{◌≡◌, ◌≢◌, ℕ, ◌+◌, ◌-◌, ◌<◌, ◌≤◌, max, refl, ◌∙◌, List, [], ◌∷◌, length, get_or, set, replicate, arith, get_or-set_same, get_or-set_other, zero, suc, inl, inr}
use Rattle.std.proofs.lemmas.Bool.{cases_lt}
use Rattle.std.proofs.lemmas.List.{get_or_past, get_or-replicate, length-replicate}
use Rattle.point_core.specs.Reach.{IsAtLeast}
use Rattle.point_core.specs.declared.context.TheConstants.{CONTEXTS}
use Rattle.point_core.specs.Used.{used_of, used_with, AreInUse}

used_with-within : (value used n : ℕ) → used ≤ n → used_with value used ≤ suc n
unfolding used_with
used_with-within value (suc used) n low = let is : used_with value (suc used) ≡ suc (suc used) = refl in omega arith
used_with-within zero zero n low = let is : used_with zero zero ≡ 0 = refl in omega arith
used_with-within (suc value) zero n low = let is : used_with (suc value) zero ≡ 1 = refl in omega arith

pub used_of-within : (values : List ℕ) → used_of values ≤ length values
unfolding used_of
used_of-within [] = omega arith
used_of-within (v ∷ vs) = used_with-within v (used_of vs) (length vs) (used_of-within vs)

used_with-first : (value used : ℕ) → used_with value used ≤ 0 → value ≡ 0
unfolding used_with
used_with-first value (suc used) low = let is : used_with value (suc used) ≡ suc (suc used) = refl in absurd (omega arith)
used_with-first zero zero low = refl
used_with-first (suc value) zero low = let is : used_with (suc value) zero ≡ 1 = refl in absurd (omega arith)

used_with-rest : (value used k : ℕ) → used_with value used ≤ suc k → used ≤ k
unfolding used_with
used_with-rest value (suc used) k low = let is : used_with value (suc used) ≡ suc (suc used) = refl in omega arith
used_with-rest zero zero k low = omega arith
used_with-rest (suc value) zero k low = omega arith

-- every value past those in use is 0
pub used_of-past : (values : List ℕ) (k : ℕ) → used_of values ≤ k → get_or values k 0 ≡ 0
unfolding used_of
used_of-past [] k low = refl
used_of-past (v ∷ vs) zero low = used_with-first v (used_of vs) low
used_of-past (v ∷ vs) (suc k) low = used_of-past vs k (used_with-rest v (used_of vs) k low)

-- the last value in use is not 0
last_with : (v : ℕ) (vs : List ℕ) (used : ℕ) → used ≡ used_of vs → (0 < used → 0 < get_or vs (used - 1) 0) → 0 < used_with v used → 0 < get_or (v ∷ vs) (used_with v used - 1) 0
unfolding used_with
last_with v vs (suc used) is h some =
    let all : used_with v (suc used) ≡ suc (suc used) = refl in
    let here : used_with v (suc used) - 1 ≡ suc used = omega arith in
    let before : suc used - 1 ≡ used = omega arith in
    rw here (rw before at h (omega arith))
last_with zero vs zero is h some = let none : used_with zero zero ≡ 0 = refl in absurd (omega arith)
last_with (suc v) vs zero is h some = omega arith

pub used_of-last : (values : List ℕ) → 0 < used_of values → 0 < get_or values (used_of values - 1) 0
unfolding used_of
used_of-last [] some = absurd (omega arith)
used_of-last (v ∷ vs) some = last_with v vs (used_of vs) refl (used_of-last vs) some

-- these two facts determine the number in use
pub used_of-is : (values : List ℕ) (n : ℕ) → ((k : ℕ) → n ≤ k → get_or values k 0 ≡ 0) → (0 < n → 0 < get_or values (n - 1) 0) → n ≡ used_of values
used_of-is values n past last = elim (cases_lt n (used_of values)) [
  | inl more ↦
      let none = past (used_of values - 1) (omega arith) in
      let some = used_of-last values (omega arith) in
      absurd (omega arith)
  | inr few ↦ elim (cases_lt (used_of values) n) [
    | inl more ↦
        let none = used_of-past values (n - 1) (omega arith) in
        let some = last (omega arith) in
        absurd (omega arith)
    | inr same ↦ omega arith
  ]
]

zeros : (n k : ℕ) → 0 ≤ k → ◌≡◌ {A = ℕ} (get_or (replicate n 0) k 0) 0
zeros n k low = elim (cases_lt k n) [
  | inl within ↦ get_or-replicate n k 0 0 within
  | inr past ↦ get_or_past (replicate n 0) k 0 (rw length-replicate past)
]

pub used_of-replicate : (n : ℕ) → 0 ≡ used_of (replicate n 0)
used_of-replicate n = used_of-is (replicate n 0) 0 (zeros n) (λ none. absurd (omega arith))

-- no values
pub AreInUse-nil : AreInUse []
AreInUse-nil = (omega arith, used_of-replicate CONTEXTS)

set_last : (values : List ℕ) (i v : ℕ) → i < length values → 0 < v → 0 < get_or (set values i v) (max (used_of values) (i + 1) - 1) 0
set_last values i v within some = elim (cases_lt (i + 1) (used_of values)) [
  | inl before ↦
      let last : max (used_of values) (i + 1) - 1 ≡ used_of values - 1 = omega arith in
      let apart : (used_of values - 1) ≢ i = omega arith in
      let raised = get_or-set_other values i (used_of values - 1) v 0 apart in
      let some = used_of-last values (omega arith) in
      rw last (omega arith)
  | inr behind ↦
      let last : max (used_of values) (i + 1) - 1 ≡ i = omega arith in
      rw (last, get_or-set_same values i v 0 within) some
]

-- a value is raised
pub used_of-set : (values : List ℕ) (i v : ℕ) → i < length values → 0 < v → max (used_of values) (i + 1) ≡ used_of (set values i v)
used_of-set values i v within some = used_of-is (set values i v) (max (used_of values) (i + 1))
    (λ k low. let apart : k ≢ i = omega arith in get_or-set_other values i k v 0 apart ∙ used_of-past values k (omega arith))
    (λ more. set_last values i v within some)

greater_last : (xs ys zs : List ℕ) → ((k : ℕ) → get_or zs k 0 ≡ max (get_or xs k 0) (get_or ys k 0)) → 0 < max (used_of xs) (used_of ys) → 0 < get_or zs (max (used_of xs) (used_of ys) - 1) 0
greater_last xs ys zs h some = elim (cases_lt (used_of xs) (used_of ys)) [
  | inl right ↦
      let is : max (used_of xs) (used_of ys) ≡ used_of ys = omega arith in
      let last = used_of-last ys (omega arith) in
      let both = h (used_of ys - 1) in
      rw is (omega arith)
  | inr left ↦
      let is : max (used_of xs) (used_of ys) ≡ used_of xs = omega arith in
      let last = used_of-last xs (omega arith) in
      let both = h (used_of xs - 1) in
      rw is (omega arith)
]

-- the greater values of two tables
pub used_of-greater : (xs ys zs : List ℕ) → ((k : ℕ) → get_or zs k 0 ≡ max (get_or xs k 0) (get_or ys k 0)) → max (used_of xs) (used_of ys) ≡ used_of zs
used_of-greater xs ys zs h = used_of-is zs (max (used_of xs) (used_of ys))
    (λ k low.
    let left = used_of-past xs k (omega arith) in
    let right = used_of-past ys k (omega arith) in
    let both = h k in
    omega arith)
    (λ some. greater_last xs ys zs h some)

-- a loop over the other table's values in use covers all of its values
pub greater_values : (xs ys zs : List ℕ) (n : ℕ) → used_of ys ≤ n → ((k : ℕ) → k < n → get_or zs k 0 ≡ max (get_or xs k 0) (get_or ys k 0)) → ((k : ℕ) → n ≤ k → get_or zs k 0 ≡ get_or xs k 0) → (k : ℕ) → get_or zs k 0 ≡ max (get_or xs k 0) (get_or ys k 0)
greater_values xs ys zs n all before behind k = elim (cases_lt k n) [
  | inl low ↦ before k low
  | inr high ↦
      let same = behind k high in
      let none = used_of-past ys k (omega arith) in
      omega arith
]

pub below_where_used : (xs ys : List ℕ) (n : ℕ) → used_of ys ≤ n → ((k : ℕ) → k < n → get_or ys k 0 ≤ get_or xs k 0) → IsAtLeast xs ys
below_where_used xs ys n all before = record {
  values = λ ctx. elim (cases_lt (ctx - 1) n) [
    | inl low ↦ before (ctx - 1) low
    | inr high ↦
        let none = used_of-past ys (ctx - 1) (omega arith) in
        omega arith
  ];
}
