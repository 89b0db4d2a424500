-- One more step on an entry of the board.
use Rattle.std.proofs.Common.{◌≡◌, ℕ, ◌+◌, ◌<◌, ◌≤◌, max, ◌⊎◌, inl, inr, ⊎_elim, List, [], ◌∷◌, set, sym, ◌∙◌, subst, arith}
use mathlib.Core.Option.{some}
use mathlib.Core.Logic.{dite}
use native.Mathlib.Decide.{dec_le}
use lib.ListN.{get_elem?}
use Rattle.std.proofs.Math.Nat.{max-eq_left, le-max_left, le-max_right}
use Rattle.words_core.specs.declared.trace.Step.{Step}
use Rattle.words_core.specs.theorem.Trace.{total, target_of, is_raise_to, is_sight_of, raise, shown}
use Rattle.words_core.specs.Rule.{WordTrace, made_in, RaisesNoMore, IsEntry}
use Rattle.words_core.proofs.Totals.{Each-set, Each-at, Each-weaker}
use Rattle.words_core.proofs.Traces.{max_both, raised-append_le, shown_value, raise_value, raise_target}
use Rattle.words_core.proofs.ValueSteps.{grown, IsTraced-grown}

-- the step takes the word from n to m
IsEntry-grown : (n m : ℕ) (traces : List WordTrace) (id : ℕ) (t : WordTrace) (s : Step) → get_elem? traces id ≡ some t → IsEntry n traces
    → n ≤ m → s.value ≤ m → target_of s ≤ m
    → ((m ≡ 0) ⊎ (0 < total (made_in (is_raise_to m)) traces + is_raise_to m s))
    → ((x : ℕ) → 0 < x → 0 < is_sight_of x s → 0 < total (made_in (is_raise_to x)) traces + is_raise_to x s)
    → IsEntry m (set traces id (grown t s))
IsEntry-grown n m traces id t s at h up top high left found =
    let mine = Each-at (RaisesNoMore n) traces id t h.raises at in
    record {
      traced = IsTraced-grown is_raise_to is_sight_of n m traces id t s at h.traced up top left found;
      raises = Each-set (RaisesNoMore m) traces id (grown t s)
          (Each-weaker (RaisesNoMore n) (RaisesNoMore m) traces (λ u b. omega arith) h.raises)
          (raised-append_le t.made (s ∷ []) m (omega arith) (max_both (target_of s) 0 m high (omega arith)));
    }

pub IsEntry-shown : (k n : ℕ) (traces : List WordTrace) (id : ℕ) (t : WordTrace) → get_elem? traces id ≡ some t → IsEntry n traces → IsEntry n (set traces id (grown t (shown k n)))
IsEntry-shown k n traces id t at h =
    let there : (n ≡ 0) ⊎ (0 < total (made_in (is_raise_to n)) traces) = h.traced.left in
    IsEntry-grown n n traces id t (shown k n) at h (omega arith) (omega arith) (omega arith)
    (⊎_elim (λ z. inl z) (λ a. inr (omega arith)) there)
    (λ x pos is. let e = shown_value k n x is in ⊎_elim (λ z. absurd (omega arith)) (λ a. let b : 0 < total (made_in (is_raise_to x)) traces = subst (λ (y : ℕ). 0 < total (made_in (is_raise_to y)) traces) e a in omega arith) there)

-- the greater of two is one of them
max_cases : (n p : ℕ) → ((max n p ≡ n) × (p ≤ n)) ⊎ ((max n p ≡ p) × (n ≤ p))
max_cases n p = dite (dec_le p n) (λ le. inl (max-eq_left le, le)) (λ gt. inr (let e : max n p ≡ p = grind arith in e, omega arith))

pub IsEntry-raised : (k n p : ℕ) (traces : List WordTrace) (id : ℕ) (t : WordTrace) → get_elem? traces id ≡ some t → IsEntry n traces → IsEntry (max n p) (set traces id (grown t (raise k p (max n p))))
IsEntry-raised k n p traces id t at h =
    let m : ℕ = max n p in let s : Step = raise k p m in let l = le-max_left n p in let r = le-max_right n p in
    let left : (m ≡ 0) ⊎ (0 < total (made_in (is_raise_to m)) traces + is_raise_to m s) = ⊎_elim
    (λ same. ⊎_elim (λ z. inl (same.0 ∙ z)) (λ a. inr (let b : 0 < total (made_in (is_raise_to m)) traces = subst (λ (y : ℕ). 0 < total (made_in (is_raise_to y)) traces) (sym same.0) a in omega arith)) h.traced.left)
    (λ other. inr (let b : 0 < is_raise_to p s = raise_target k p m in let d : 0 < is_raise_to m s = subst (λ (y : ℕ). 0 < is_raise_to y s) (sym other.0) b in omega arith)) (max_cases n p) in
    IsEntry-grown n m traces id t s at h l (omega arith) r left
    (λ x pos is. let e = raise_value k p m x is in ⊎_elim (λ z. absurd (omega arith)) (λ a. subst (λ (y : ℕ). 0 < total (made_in (is_raise_to y)) traces + is_raise_to y s) e a) left)
