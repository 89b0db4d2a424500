-- One more step on the value of a context or on its claim.
use Rattle.std.proofs.Common.{◌≡◌, ℕ, ◌+◌, ◌<◌, ◌≤◌, ◌⊎◌, inl, inr, ⊎_elim, List, [], ◌∷◌, ◌++◌, set, refl, subst, arith}
use mathlib.Core.Option.{some}
use mathlib.Core.Logic.{dite}
use native.Mathlib.Decide.{ℕ_discrete}
use lib.ListN.{get_elem?}
use Rattle.words_core.specs.declared.trace.Step.{Step}
use Rattle.words_core.specs.theorem.Trace.{amount_of, total, added, is_add, is_win, is_load_of, is_add_to, load, add}
use Rattle.words_core.specs.Rule.{Each, WordTrace, made_in, known_in, wins_in, IsAtMost, HasSums, AddsAsDriver, IsTraced, IsValue}
use Rattle.words_core.proofs.Totals.{total-set, total-append, Each-set, Each-at, Each-weaker}
use Rattle.words_core.proofs.Traces.{greatest-append_le, greatest_one, HasRunningSums-append, load_value, add_value}

-- one more step on the word
abbrev pub grown : WordTrace → Step → WordTrace
grown t s = record t { made = t.made ++ s ∷ [] }

-- one more step on the claim
abbrev pub claimed : WordTrace → Step → WordTrace
claimed t s = record t { claim = t.claim ++ s ∷ [] }

pub total-grown : (f : Step → ℕ) (traces : List WordTrace) (id : ℕ) (t : WordTrace) (s : Step) → get_elem? traces id ≡ some t
    → total (made_in f) (set traces id (grown t s)) ≡ total (made_in f) traces + f s
total-grown f traces id t s at =
    let a : total f (t.made ++ s ∷ []) ≡ total f t.made + (f s + 0) = total-append f t.made (s ∷ []) in
    let b : total (made_in f) (set traces id (grown t s)) + total f t.made ≡ total (made_in f) traces + total f (t.made ++ s ∷ []) = total-set (made_in f) traces id t (grown t s) at in
    omega arith

-- the totals of all known steps
pub total-known_grown : (f : Step → ℕ) (traces : List WordTrace) (id : ℕ) (t : WordTrace) (s : Step) → get_elem? traces id ≡ some t
    → total (known_in f) (set traces id (grown t s)) ≡ total (known_in f) traces + f s
total-known_grown f traces id t s at =
    let a : total f (t.made ++ s ∷ []) ≡ total f t.made + (f s + 0) = total-append f t.made (s ∷ []) in
    let b : total (known_in f) (set traces id (grown t s)) + (total f t.start + total f t.made) ≡ total (known_in f) traces + (total f t.start + total f (t.made ++ s ∷ [])) = total-set (known_in f) traces id t (grown t s) at in
    omega arith

pub none_or_some : (n : ℕ) → (n ≡ 0) ⊎ (0 < n)
none_or_some n = dite (ℕ_discrete n 0) (λ e. inl e) (λ ne. inr (omega arith))

-- each known value is at most the word, which the step takes from n to m
pub below-grown : (n m : ℕ) (traces : List WordTrace) (id : ℕ) (t : WordTrace) (s : Step) → get_elem? traces id ≡ some t → Each (IsAtMost n) traces → n ≤ m → s.value ≤ m → Each (IsAtMost m) (set traces id (grown t s))
below-grown n m traces id t s at h up top =
    let mine = Each-at (IsAtMost n) traces id t h at in
    Each-set (IsAtMost m) traces id (grown t s)
    (Each-weaker (IsAtMost n) (IsAtMost m) traces (λ u b. (omega arith, omega arith)) h)
    (omega arith, greatest-append_le t.made (s ∷ []) m (omega arith) (greatest_one s m top))

-- the step takes the word from n to m
pub IsTraced-grown : (leaves finds : ℕ → Step → ℕ) (n m : ℕ) (traces : List WordTrace) (id : ℕ) (t : WordTrace) (s : Step) → get_elem? traces id ≡ some t → IsTraced leaves finds n traces
    → n ≤ m → s.value ≤ m
    → ((m ≡ 0) ⊎ (0 < total (made_in (leaves m)) traces + leaves m s))
    → ((x : ℕ) → 0 < x → 0 < finds x s → 0 < total (made_in (leaves x)) traces + leaves x s)
    → IsTraced leaves finds m (set traces id (grown t s))
IsTraced-grown leaves finds n m traces id t s at h up top left found =
    record {
      below = below-grown n m traces id t s at h.below up top;
      left = rw (total-grown (leaves m) traces id t s at) left;
      found = λ x pos some. let a = total-known_grown (finds x) traces id t s at in let b = total-grown (leaves x) traces id t s at in
          elim (none_or_some (finds x s)) as (λ _. 0 < total (made_in (leaves x)) (set traces id (grown t s))) [ inl none ↦ let c = h.found x pos (omega arith) in omega arith | inr one ↦ let c = found x pos one in omega arith ];
    }

pub IsValue-grown : (n m : ℕ) (traces : List WordTrace) (id : ℕ) (t : WordTrace) (s : Step) → get_elem? traces id ≡ some t → IsValue n traces
    → IsTraced is_add_to is_load_of m (set traces id (grown t s))
    → m ≡ n + amount_of s
    → (0 < is_add s → s.value ≡ added t.made + amount_of s)
    → (wins_in t ≡ 0 → is_add s ≡ 0)
    → IsValue m (set traces id (grown t s))
IsValue-grown n m traces id t s at h traced sum running driven =
    let ran = Each-at HasSums traces id t h.running at in
    let own = Each-at AddsAsDriver traces id t h.driven at in
    record {
      traced = traced;
      summed = let a = total-grown amount_of traces id t s at in let b = h.summed in omega arith;
      running = Each-set HasSums traces id (grown t s) h.running (HasRunningSums-append 0 t.made (s ∷ []) ran ((λ is. let r = running is in omega arith), tt));
      driven = Each-set AddsAsDriver traces id (grown t s) h.driven
          (λ idle. let a : total is_add (t.made ++ s ∷ []) ≡ total is_add t.made + (is_add s + 0) = total-append is_add t.made (s ∷ []) in let b = own idle in let c = driven idle in omega arith);
    }

pub IsValue-loaded : (w n : ℕ) (traces : List WordTrace) (id : ℕ) (t : WordTrace) → get_elem? traces id ≡ some t → IsValue n traces → IsValue n (set traces id (grown t (load w n)))
IsValue-loaded w n traces id t at h =
    let there : (n ≡ 0) ⊎ (0 < total (made_in (is_add_to n)) traces) = h.traced.left in
    IsValue-grown n n traces id t (load w n) at h
    (IsTraced-grown is_add_to is_load_of n n traces id t (load w n) at h.traced (omega arith) (omega arith) (⊎_elim (λ z. inl z) (λ a. inr (omega arith)) there)
    (λ x pos is. let e = load_value w n x is in ⊎_elim (λ z. absurd (omega arith)) (λ a. let b : 0 < total (made_in (is_add_to x)) traces = subst (λ (y : ℕ). 0 < total (made_in (is_add_to y)) traces) e a in omega arith) there))
    (omega arith) (λ bad. absurd (omega arith)) (λ _. refl)

pub IsValue-added : (w n k : ℕ) (traces : List WordTrace) (id : ℕ) (t : WordTrace) → get_elem? traces id ≡ some t → IsValue n traces → 0 < wins_in t → n ≡ added t.made → IsValue (n + k) (set traces id (grown t (add w k (n + k))))
IsValue-added w n k traces id t at h won own =
    let s : Step = add w k (n + k) in
    IsValue-grown n (n + k) traces id t s at h
    (IsTraced-grown is_add_to is_load_of n (n + k) traces id t s at h.traced (omega arith) (omega arith) (inr (let a = add_value w k (n + k) in omega arith)) (λ x pos bad. absurd (omega arith)))
    refl (λ _. omega arith) (λ idle. absurd (omega arith))

-- a step on the claim keeps the trace of the value
IsTraced-claimed : (leaves finds : ℕ → Step → ℕ) (n : ℕ) (traces : List WordTrace) (id : ℕ) (t : WordTrace) (s : Step) → get_elem? traces id ≡ some t → IsTraced leaves finds n traces → IsTraced leaves finds n (set traces id (claimed t s))
IsTraced-claimed leaves finds n traces id t s at h =
    let u : WordTrace = claimed t s in
    let same : (f : Step → ℕ) → total (made_in f) (set traces id u) ≡ total (made_in f) traces = λ f.
    let a : total (made_in f) (set traces id u) + total f t.made ≡ total (made_in f) traces + total f t.made = total-set (made_in f) traces id t u at in omega arith in
    record {
      below = Each-set (IsAtMost n) traces id u h.below (Each-at (IsAtMost n) traces id t h.below at);
      left = rw (same (leaves n)) h.left;
      found = λ x pos some.
          let a : total (known_in (finds x)) (set traces id u) + (total (finds x) t.start + total (finds x) t.made) ≡ total (known_in (finds x)) traces + (total (finds x) t.start + total (finds x) t.made)
          = total-set (known_in (finds x)) traces id t u at in
          rw (same (leaves x)) (h.found x pos (omega arith));
    }

pub IsValue-claimed : (n : ℕ) (traces : List WordTrace) (id : ℕ) (t : WordTrace) (s : Step) → get_elem? traces id ≡ some t → IsValue n traces → IsValue n (set traces id (claimed t s))
IsValue-claimed n traces id t s at h =
    let u : WordTrace = claimed t s in
    let same : total (made_in amount_of) (set traces id u) + total amount_of t.made ≡ total (made_in amount_of) traces + total amount_of t.made = total-set (made_in amount_of) traces id t u at in
    let own = Each-at AddsAsDriver traces id t h.driven at in
    record {
      traced = IsTraced-claimed is_add_to is_load_of n traces id t s at h.traced;
      summed = let a = h.summed in omega arith;
      running = Each-set HasSums traces id u h.running (Each-at HasSums traces id t h.running at);
      driven = Each-set AddsAsDriver traces id u h.driven
          (λ idle. let a : total is_win (t.claim ++ s ∷ []) ≡ total is_win t.claim + (is_win s + 0) = total-append is_win t.claim (s ∷ []) in own (omega arith));
    }
