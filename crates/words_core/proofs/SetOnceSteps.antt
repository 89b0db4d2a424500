-- A step on a claim or a flag.
use Rattle.std.proofs.Common.{◌≡◌, ℕ, ◌+◌, ◌<◌, ◌≤◌, ⊎_elim, List, set, bit_or, sym, refl, subst, arith}
use mathlib.Core.Option.{some}
use mathlib.Core.Logic.{dite}
use native.Mathlib.Decide.{ℕ_discrete}
use lib.ListN.{get_elem?}
use Rattle.words_core.specs.declared.trace.Step.{Step}
use Rattle.words_core.specs.theorem.Trace.{is_win, is_test, load, won, lost, set_once_step}
use Rattle.words_core.specs.Rule.{WordTrace, IsSetOnce}
use Rattle.words_core.proofs.ValueSteps.{grown, total-grown, total-known_grown, below-grown, none_or_some}

-- the step takes the word from n to m
IsSetOnce-grown : (n m : ℕ) (traces : List WordTrace) (id : ℕ) (t : WordTrace) (s : Step) → get_elem? traces id ≡ some t → IsSetOnce n traces
    → n ≤ m → s.value ≤ m → m ≡ n + is_win s → (0 < is_test s → m ≡ 1) → (n ≡ 1 → m ≡ 1) → IsSetOnce m (set traces id (grown t s))
IsSetOnce-grown n m traces id t s at h up top win test stays =
    let a = total-grown is_win traces id t s at in
    let b = total-known_grown is_test traces id t s at in
    let d = h.won in
    record {
      below = below-grown n m traces id t s at h.below up top;
      won = omega arith;
      tested = λ some. ⊎_elim (λ none. stays (h.tested (omega arith))) (λ one. test one) (none_or_some (is_test s));
    }

pub IsSetOnce-set : (k n : ℕ) (traces : List WordTrace) (id : ℕ) (t : WordTrace) → get_elem? traces id ≡ some t → n ≤ 1 → IsSetOnce n traces → IsSetOnce (bit_or n 1) (set traces id (grown t (set_once_step k n)))
IsSetOnce-set k n traces id t at few h = let P : ℕ → Type 0 = λ m. IsSetOnce (bit_or m 1) (set traces id (grown t (set_once_step k m))) in dite (ℕ_discrete n 0)
    (λ e. subst P (sym e) (IsSetOnce-grown 0 1 traces id t (won k) at (subst (λ (m : ℕ). IsSetOnce m traces) e h) (omega arith) (omega arith) (omega arith) (λ _. refl) (λ _. refl)))
    (λ ne. let e : n ≡ 1 = omega arith in subst P (sym e) (IsSetOnce-grown 1 1 traces id t (lost k) at (subst (λ (m : ℕ). IsSetOnce m traces) e h) (omega arith) (omega arith) (omega arith) (λ _. refl) (λ _. refl)))

pub IsSetOnce-loaded : (k n : ℕ) (traces : List WordTrace) (id : ℕ) (t : WordTrace) → get_elem? traces id ≡ some t → IsSetOnce n traces → IsSetOnce n (set traces id (grown t (load k n)))
IsSetOnce-loaded k n traces id t at h = IsSetOnce-grown n n traces id t (load k n) at h (omega arith) (omega arith) (omega arith) (λ bad. absurd (omega arith)) (λ e. e)
