-- Tables by context, and the greater value of each context.
use Rattle.std.proofs.Common.{sym, ◌≡◌, ◌≢◌, ℕ, ◌+◌, ◌-◌, ◌<◌, ◌≤◌, max, refl, ap, ◌∙◌, List, [], ◌∷◌, length, get_or, set, replicate, arith, get_or-set_same, get_or-set_other, zero, suc, le_trans, inl, inr}
use Rattle.std.proofs.lemmas.Bool.{cases_lt}
use Rattle.std.specs.List.{zip}
use Rattle.std.proofs.lemmas.List.{get_or_past, get_or-replicate, length-map, length-replicate}
use Rattle.point_core.specs.Reach.{value_at, with_value, later_values, IsAtLeast}

pub value_at-with_value_same : (reach : List ℕ) (ctx value : ℕ) → 1 ≤ ctx → ctx ≤ length reach → value_at (with_value reach ctx value) ctx ≡ value
value_at-with_value_same reach ctx value low high = get_or-set_same reach (ctx - 1) value 0 (omega arith)

pub value_at-with_value_other : (reach : List ℕ) (ctx other value : ℕ) → 1 ≤ ctx → 1 ≤ other → other ≢ ctx → value_at (with_value reach ctx value) other ≡ value_at reach other
value_at-with_value_other reach ctx other value low low' apart = let apart' : (other - 1) ≢ (ctx - 1) = omega arith in get_or-set_other reach (ctx - 1) (other - 1) value 0 apart'

-- the greater value, context by context
pub later_values-is : (xs ys zs : List ℕ) → length xs ≡ length ys → length zs ≡ length xs → ((k : ℕ) → k < length xs → get_or zs k 0 ≡ max (get_or xs k 0) (get_or ys k 0)) → zs ≡ later_values xs ys
later_values-is [] [] [] e f h = refl
later_values-is [] [] (z ∷ zs) e f h = absurd (omega (arith, f))
later_values-is (x ∷ xs) (y ∷ ys) (z ∷ zs) e f h =
    ap (λ v. v ∷ zs) (h 0 (omega arith)) ∙ ap (λ vs. max x y ∷ vs) (later_values-is xs ys zs (omega arith) (omega arith) (λ k low. h (suc k) (omega arith)))
later_values-is [] (y ∷ ys) zs e f h = absurd (omega (arith, e))
later_values-is (x ∷ xs) [] zs e f h = absurd (omega (arith, e))
later_values-is (x ∷ xs) (y ∷ ys) [] e f h = absurd (omega (arith, f))

pub IsAtLeast-below : (reach other : List ℕ) (n : ℕ) → length reach ≤ n → length other ≤ n → ((k : ℕ) → k < n → get_or other k 0 ≤ get_or reach k 0) → IsAtLeast reach other
IsAtLeast-below reach other n short short' below = record {
  values = λ ctx. elim (cases_lt (ctx - 1) n) [
    | inl low ↦ below (ctx - 1) low
    | inr past ↦ rw (get_or_past other (ctx - 1) 0 (omega arith)) (omega arith)
  ];
}

pub IsAtLeast-at : {reach other : List ℕ} → IsAtLeast reach other → (k : ℕ) → get_or other k 0 ≤ get_or reach k 0
IsAtLeast-at {reach} {other} h k = let back : k + 1 - 1 ≡ k = omega arith in rw back at (h.values (k + 1))

pub IsAtLeast-refl : (reach : List ℕ) → IsAtLeast reach reach
IsAtLeast-refl reach = record { values = λ ctx. omega arith }

pub IsAtLeast-trans : {third second first : List ℕ} → IsAtLeast third second → IsAtLeast second first → IsAtLeast third first
IsAtLeast-trans h k = record { values = λ ctx. le_trans (k.values ctx) (h.values ctx) }

pub get_or-set_at_least : (xs : List ℕ) (i v k : ℕ) → get_or xs i 0 ≤ v → get_or xs k 0 ≤ get_or (set xs i v) k 0
get_or-set_at_least [] i v k low = omega arith
get_or-set_at_least (x ∷ xs) zero v zero low = low
get_or-set_at_least (x ∷ xs) zero v (suc k) low = omega arith
get_or-set_at_least (x ∷ xs) (suc i) v zero low = omega arith
get_or-set_at_least (x ∷ xs) (suc i) v (suc k) low = get_or-set_at_least xs i v k low

pub value_at-replicate : (n ctx : ℕ) → value_at (replicate n 0) ctx ≡ 0
value_at-replicate n ctx = elim (cases_lt (ctx - 1) n) [
  | inl low ↦ get_or-replicate n (ctx - 1) 0 0 low
  | inr past ↦ get_or_past (replicate n 0) (ctx - 1) 0 (rw length-replicate past)
]

length-zip_same : {A B : Type 0} (xs : List A) (ys : List B) → length xs ≡ length ys → length (zip xs ys) ≡ length xs
length-zip_same [] ys same = refl
length-zip_same (x ∷ xs) [] same = absurd (omega arith)
length-zip_same (x ∷ xs) (y ∷ ys) same = let rest = length-zip_same xs ys (omega arith) in omega arith

pub length-later_values : (reach other : List ℕ) → length reach ≡ length other → length (later_values reach other) ≡ length reach
length-later_values reach other same = length-map (zip reach other) _ ∙ length-zip_same reach other same

-- raising one context's value lowers no value
pub IsAtLeast-with_value : (reach : List ℕ) (ctx value : ℕ) → value_at reach ctx ≤ value → IsAtLeast (with_value reach ctx value) reach
IsAtLeast-with_value reach ctx value low = record { values = λ other. get_or-set_at_least reach (ctx - 1) value (other - 1) low }

get_or-later_values : (xs ys : List ℕ) (k : ℕ) → length xs ≡ length ys → get_or (later_values xs ys) k 0 ≡ max (get_or xs k 0) (get_or ys k 0)
get_or-later_values [] [] k e = refl
get_or-later_values [] (y ∷ ys) k e = absurd (omega (arith, e))
get_or-later_values (x ∷ xs) [] k e = absurd (omega (arith, e))
get_or-later_values (x ∷ xs) (y ∷ ys) zero e = refl
get_or-later_values (x ∷ xs) (y ∷ ys) (suc k) e = get_or-later_values xs ys k (omega arith)

pub value_at-later_values : (reach other : List ℕ) (ctx : ℕ) → length reach ≡ length other → value_at (later_values reach other) ctx ≡ max (value_at reach ctx) (value_at other ctx)
value_at-later_values reach other ctx e = get_or-later_values reach other (ctx - 1) e

pub IsAtLeast-later_values_left : (reach other : List ℕ) → length reach ≡ length other → IsAtLeast (later_values reach other) reach
IsAtLeast-later_values_left reach other e = record { values = λ ctx. let is = value_at-later_values reach other ctx e in omega arith }

pub IsAtLeast-later_values_right : (reach other : List ℕ) → length reach ≡ length other → IsAtLeast (later_values reach other) other
IsAtLeast-later_values_right reach other e = record { values = λ ctx. let is = value_at-later_values reach other ctx e in omega arith }

-- a reach that is at least the other is the greater of both
pub later_values-at_least : (reach other : List ℕ) → length reach ≡ length other → IsAtLeast reach other → later_values reach other ≡ reach
later_values-at_least reach other e h = sym (later_values-is reach other reach e refl (λ k low. let at = IsAtLeast-at h k in omega arith))

-- and no lower reach is at least both
pub IsAtLeast-later_values : {reach other higher : List ℕ} → length reach ≡ length other → IsAtLeast higher reach → IsAtLeast higher other → IsAtLeast higher (later_values reach other)
IsAtLeast-later_values {reach} {other} {higher} e h k = record { values = λ ctx. let is = value_at-later_values reach other ctx e in let left = h.values ctx in let right = k.values ctx in omega arith }
