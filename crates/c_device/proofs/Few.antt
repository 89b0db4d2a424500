-- Distinct open files are no more than all open files.
use Rattle.std.proofs.Common.{◌≡◌, ℕ, ◌<◌, ◌≤◌, nat_eq, inl, inr, Bool, true, false, not, cond, is_some, refl, Option, Some, List, [], ◌∷◌, length, get_or, filter, Contains, arith}
use Rattle.std.specs.List.Sorted.{IsStrictlyIncreasing}
use Rattle.std.proofs.lemmas.Bool.{cases_lt, eqb-true, false≢true}
use Rattle.std.proofs.lemmas.List.Elements.{All-contains, All-contains_itself, All-filter, All-get_or, filter_passes}
use Rattle.std.proofs.lemmas.List.Filters.{length-filter_both}
use Rattle.std.proofs.lemmas.List.Kept.{AllPairs-from_increasing, IsStrictlyIncreasing-filter}
use Rattle.device_core.specs.theorem.State.{at}

-- a number occurs once
once : (k : ℕ) (ns : List ℕ) → IsStrictlyIncreasing ns → length (filter (λ n. nat_eq n k) ns) ≤ 1
once k ns rising =
    let same = filter (λ n. nat_eq n k) ns in
    elim (cases_lt 1 (length same)) [
      | inl more ↦
          let pairs = AllPairs-from_increasing same (IsStrictlyIncreasing-filter (λ n. nat_eq n k) ns rising) in
          let rises : get_or same 0 0 < get_or same 1 0 = pairs 0 1 0 (omega arith) (omega arith) in
          let passes = filter_passes (λ n. nat_eq n k) ns in
          let first : get_or same 0 0 ≡ k = eqb-true (get_or same 0 0) k (All-get_or (λ n. nat_eq n k ≡ true) same 0 0 (omega arith) passes) in
          let second : get_or same 1 0 ≡ k = eqb-true (get_or same 1 0) k (All-get_or (λ n. nat_eq n k ≡ true) same 1 0 (omega arith) passes) in
          absurd (omega (arith, rises, first, second))
      | inr few ↦ few
    ]

module _ {X : Type 0} where
  other : (b : Bool) (x : X) (o : Option X) → not b ≡ true → is_some (cond b (Some x) o) ≡ true → is_some o ≡ true
  other true x o apart is = absurd (false≢true apart)
  other false x o apart is = is

  pub few : (es : List (ℕ × X)) (ns : List ℕ) → IsStrictlyIncreasing ns → ((n : ℕ) → Contains ns n → is_some (at es n) ≡ true) → length ns ≤ length es
  few [] [] rising there = omega arith
  few [] (n ∷ ns) rising there = absurd (false≢true (there n (0, omega arith, refl)))
  few (e ∷ es) ns rising there =
      let is_it : ℕ → Bool = λ n. nat_eq n e.0 in
      let left = filter (λ n. not (is_it n)) ns in
      let rest : length left ≤ length es = few es left (IsStrictlyIncreasing-filter (λ n. not (is_it n)) ns rising) (λ n among.
      other (is_it n) e.1 (at es n)
      (All-contains (λ m. not (is_it m) ≡ true) left n (filter_passes (λ m. not (is_it m)) ns) among)
      (there n (All-contains (Contains ns) left n (All-filter (λ m. not (is_it m)) (Contains ns) ns (All-contains_itself ns)) among))) in
      let one = once e.0 ns rising in
      let both = length-filter_both is_it (λ n. not (is_it n)) (λ n. refl) ns in
      omega (arith, rest, one, both)
