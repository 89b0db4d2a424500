-- Tables of values that are stored up to the last that is not 0.
use Rattle.std.proofs.Common.{◌≡◌, ℕ, ◌+◌, ◌-◌, ◌<◌, ◌≤◌, max, refl, ap, sym, ◌∙◌, List, [], ◌∷◌, ◌++◌, length, get_or, replicate, take, arith, zero, suc, inl, inr}
use Rattle.std.proofs.lemmas.Bool.{cases_lt}
use Rattle.std.proofs.lemmas.List.{get_or_append_left, get_or-append_right, get_or_past, get_or-replicate, length-append, length-replicate, length-take-le}
use Rattle.point_core.specs.declared.context.TheConstants.{CONTEXTS}
use Rattle.point_core.specs.Reach.{later_values, IsAtLeast}
use Rattle.point_core.specs.Used.{used_of, padded, AreValues, AreInUse}
use Rattle.point_core.proofs.Used.{used_of-past, used_of-greater, greater_values, below_where_used}
use Rattle.point_core.proofs.Values.{later_values-is, IsAtLeast-at}

zeros-are : (values : List ℕ) → ((k : ℕ) → get_or values k 0 ≡ 0) → replicate (length values) 0 ≡ values
zeros-are [] none = refl
zeros-are (v ∷ vs) none = ap (λ rest. 0 ∷ rest) (zeros-are vs (λ k. none (suc k))) ∙ ap (λ first. first ∷ vs) (sym (none 0))

-- once the values in use are 0, all values are
pub cleared : (xs zs : List ℕ) (n : ℕ) → length zs ≡ CONTEXTS → used_of xs ≤ n → ((k : ℕ) → k < n → get_or zs k 0 ≡ 0) → ((k : ℕ) → n ≤ k → get_or zs k 0 ≡ get_or xs k 0) → zs ≡ replicate CONTEXTS 0
cleared xs zs n full all none others =
    sym (zeros-are zs (λ k. elim (cases_lt k n) [
      | inl low ↦ none k low
      | inr high ↦ others k high ∙ used_of-past xs k (omega arith)
    ])) ∙ ap (λ (m : ℕ). replicate m 0) full

zeros : (n k : ℕ) → ◌≡◌ {A = ℕ} (get_or (replicate n 0) k 0) 0
zeros n k = elim (cases_lt k n) [
  | inl within ↦ get_or-replicate n k 0 0 within
  | inr past ↦ get_or_past (replicate n 0) k 0 (rw length-replicate past)
]

front-padded : (values : List ℕ) (used rest : ℕ) → used + rest ≡ length values → ((k : ℕ) → used ≤ k → get_or values k 0 ≡ 0) → take used values ++ replicate rest 0 ≡ values
front-padded values zero rest all past =
    let is : rest ≡ length values = omega (arith, all) in
    ap (λ n. replicate n 0) is ∙ zeros-are values (λ k. past k (omega arith))
front-padded [] (suc used) rest all past = absurd (omega (arith, all))
front-padded (v ∷ vs) (suc used) rest all past = ap (λ behind. v ∷ behind) (front-padded vs used rest (omega (arith, all)) (λ k low. past (suc k) (omega arith)))

-- the part in use determines the table
pub padded-front : (values : List ℕ) (used : ℕ) → AreValues values used → padded (take used values) ≡ values
padded-front values used h =
    let full = h.0 in
    let within = h.1 in
    let short : length (take used values) ≡ used = length-take-le used values (omega arith) in
    ap (λ n. take used values ++ replicate (CONTEXTS - n) 0) short
    ∙ front-padded values used (CONTEXTS - used) (omega arith) (λ k low. used_of-past values k (rw (← h.2) low))

pub AreInUse-front : (values : List ℕ) (used : ℕ) → AreValues values used → AreInUse (take used values)
AreInUse-front values used h =
    let full = h.0 in
    let within = h.1 in
    let short : length (take used values) ≡ used = length-take-le used values (omega arith) in
    (rw short within, short ∙ h.2 ∙ ap used_of (sym (padded-front values used h)))

pub length-padded : (values : List ℕ) → AreInUse values → length (padded values) ≡ CONTEXTS
length-padded values h =
    let within = h.0 in
    length-append values (replicate (CONTEXTS - length values) 0)
    ∙ ap (λ n. length values + n) (length-replicate {A = ℕ} (CONTEXTS - length values) 0)
    ∙ omega arith

get_or-padded : (values : List ℕ) (k : ℕ) → get_or (padded values) k 0 ≡ get_or values k 0
get_or-padded values k = elim (cases_lt k (length values)) [
  | inl low ↦ get_or_append_left values (replicate (CONTEXTS - length values) 0) 0 k low
  | inr past ↦
      get_or-append_right values (replicate (CONTEXTS - length values) 0) (length values) k 0 refl past
      ∙ zeros (CONTEXTS - length values) (k - length values)
      ∙ sym (get_or_past values k 0 past)
]

-- a loop over the values in use covers all values
pub later_values-in_use : (xs ys zs : List ℕ) (n : ℕ) → length xs ≡ CONTEXTS → length zs ≡ length xs → AreInUse ys → length ys ≤ n → ((k : ℕ) → k < n → get_or zs k 0 ≡ max (get_or xs k 0) (get_or ys k 0)) → ((k : ℕ) → n ≤ k → get_or zs k 0 ≡ get_or xs k 0) → (zs ≡ later_values xs (padded ys)) × (max (used_of xs) (length ys) ≡ used_of zs)
later_values-in_use xs ys zs n full same h all joined others =
    let greater = greater_values xs (padded ys) zs n (omega (arith, h.1)) (λ k low. joined k low ∙ ap (λ v. max (get_or xs k 0) v) (sym (get_or-padded ys k))) others in (
      later_values-is xs (padded ys) zs (full ∙ sym (length-padded ys h)) same (λ k low. greater k),
      ap (λ used. max (used_of xs) used) h.1 ∙ used_of-greater xs (padded ys) zs greater,
    )

pub IsAtLeast-in_use : (xs ys : List ℕ) (n : ℕ) → AreInUse ys → length ys ≤ n → ((k : ℕ) → k < n → get_or ys k 0 ≤ get_or xs k 0) → IsAtLeast xs (padded ys)
IsAtLeast-in_use xs ys n h all before = below_where_used xs (padded ys) n (omega (arith, h.1)) (λ k low. rw (get_or-padded ys k) (before k low))

pub IsAtLeast-padded : {xs : List ℕ} (ys : List ℕ) → IsAtLeast xs (padded ys) → (k : ℕ) → get_or ys k 0 ≤ get_or xs k 0
IsAtLeast-padded {xs} ys h k = rw (get_or-padded ys k) at (IsAtLeast-at h k)

-- the greater values of a list and no values
pub later_values-replicate : (n : ℕ) (values : List ℕ) → length values ≡ n → later_values (replicate n 0) values ≡ values
later_values-replicate zero [] is = refl
later_values-replicate zero (v ∷ vs) is = absurd (omega (arith, is))
later_values-replicate (suc n) [] is = absurd (omega (arith, is))
later_values-replicate (suc n) (v ∷ vs) is = ap (λ first. first ∷ later_values (replicate n 0) vs) (omega arith) ∙ ap (λ rest. v ∷ rest) (later_values-replicate n vs (omega arith))
