-- One more step on the mark of a context, on its claim or on its value.
use Rattle.std.proofs.Common.{◌≡◌, ℕ, ◌+◌, ◌<◌, ◌≤◌, max, ◌⊎◌, inl, inr, ⊎_elim, List, [], ◌∷◌, ◌++◌, set, refl, arith}
use mathlib.Core.Option.{some}
use lib.ListN.{get_elem?}
use Rattle.words_core.specs.declared.trace.StepKind.{StepKind}
use Rattle.words_core.specs.declared.trace.StepKind.TheVariants.{Load, Add, Won, Lost, Raise, Shown, Shut}
use Rattle.words_core.specs.declared.trace.Step.{Step}
use Rattle.words_core.specs.theorem.Trace.{if_kind, total, greatest, is_win, is_shut, shut_to, load, shut}
use Rattle.words_core.specs.Rule.{WordTrace, made_in, wins_in, ShutsAsDriver, IsZeroOr, KnowsZeroOr, IsMark}
use Rattle.words_core.proofs.Totals.{total-set, total-append, Each-set, Each-at, Each-weaker}
use Rattle.words_core.proofs.ValueSteps.{grown, claimed, total-grown}

-- values that are each 0 or n

IsZeroOr-weaker : (n m : ℕ) (xs : List Step) → ((x : ℕ) → (x ≡ 0) ⊎ (x ≡ n) → (x ≡ 0) ⊎ (x ≡ m)) → IsZeroOr n xs → IsZeroOr m xs
IsZeroOr-weaker n m xs f h = Each-weaker (λ (s : Step). (s.value ≡ 0) ⊎ (s.value ≡ n)) (λ (s : Step). (s.value ≡ 0) ⊎ (s.value ≡ m)) xs (λ s is. f s.value is) h

pub IsZeroOr-append : (n : ℕ) (xs ys : List Step) → IsZeroOr n xs → IsZeroOr n ys → IsZeroOr n (xs ++ ys)
IsZeroOr-append n [] ys a b = b
IsZeroOr-append n (x ∷ xs) ys a b = (a.0, IsZeroOr-append n xs ys a.1 b)

pub max_zero_or : (a b n : ℕ) → (a ≡ 0) ⊎ (a ≡ n) → (b ≡ 0) ⊎ (b ≡ n) → (max a b ≡ 0) ⊎ (max a b ≡ n)
max_zero_or a b n (inl p) (inl q) = inl (grind arith)
max_zero_or a b n (inl p) (inr q) = inr (grind arith)
max_zero_or a b n (inr p) (inl q) = inr (grind arith)
max_zero_or a b n (inr p) (inr q) = inr (grind arith)

-- so is the greatest of them
pub greatest_zero_or : (n : ℕ) (xs : List Step) → IsZeroOr n xs → (greatest xs ≡ 0) ⊎ (greatest xs ≡ n)
greatest_zero_or n [] h = inl refl
greatest_zero_or n (x ∷ xs) h = max_zero_or x.value (greatest xs) n h.0 (greatest_zero_or n xs h.1)

-- a step that is no closing leaves no mark
no_mark : (kind : StepKind) (n : ℕ) → if_kind Shut kind 1 ≡ 0 → if_kind Shut kind n ≡ 0
no_mark Load n h = refl
no_mark Add n h = refl
no_mark Won n h = refl
no_mark Lost n h = refl
no_mark Raise n h = refl
no_mark Shown n h = refl
no_mark Shut n h = absurd (omega arith)

pub mark_none : (xs : List Step) → total is_shut xs ≡ 0 → total shut_to xs ≡ 0
mark_none [] h = refl
mark_none (x ∷ xs) h = let one : shut_to x ≡ 0 = no_mark x.kind x.value (omega arith) in let more : total shut_to xs ≡ 0 = mark_none xs (omega arith) in omega arith

pub marks_none : (traces : List WordTrace) → total (made_in is_shut) traces ≡ 0 → total (made_in shut_to) traces ≡ 0
marks_none [] h = refl
marks_none (t ∷ traces) h = let one : total shut_to t.made ≡ 0 = mark_none t.made (omega arith) in let more : total (made_in shut_to) traces ≡ 0 = marks_none traces (omega arith) in omega arith

-- a step on the mark, which takes it from n to m
IsMark-grown : (value n m : ℕ) (traces : List WordTrace) (id : ℕ) (t : WordTrace) (s : Step) → get_elem? traces id ≡ some t → IsMark value n traces
    → ((x : ℕ) → (x ≡ 0) ⊎ (x ≡ n) → (x ≡ 0) ⊎ (x ≡ m)) → (s.value ≡ 0) ⊎ (s.value ≡ m)
    → total (made_in is_shut) traces + is_shut s ≤ 1 → m ≡ n + shut_to s
    → (0 < total (made_in is_shut) traces + is_shut s → m ≡ value + 1)
    → (wins_in t ≡ 0 → is_shut s ≡ 0)
    → IsMark value m (set traces id (grown t s))
IsMark-grown value n m traces id t s at h up new once left ended driven =
    let mine = Each-at (KnowsZeroOr n) traces id t h.known at in
    let own = Each-at ShutsAsDriver traces id t h.driven at in
    let shuts = total-grown is_shut traces id t s at in
    record {
      known = Each-set (KnowsZeroOr m) traces id (grown t s)
          (Each-weaker (KnowsZeroOr n) (KnowsZeroOr m) traces (λ u k. (IsZeroOr-weaker n m u.start up k.0, IsZeroOr-weaker n m u.made up k.1)) h.known)
          (IsZeroOr-weaker n m t.start up mine.0, IsZeroOr-append m t.made (s ∷ []) (IsZeroOr-weaker n m t.made up mine.1) (new, tt));
      once = omega arith;
      left = let a = total-grown shut_to traces id t s at in let b = h.left in omega arith;
      ended = λ some. ended (omega arith);
      driven = Each-set ShutsAsDriver traces id (grown t s) h.driven
          (λ idle. let a : total is_shut (t.made ++ s ∷ []) ≡ total is_shut t.made + (is_shut s + 0) = total-append is_shut t.made (s ∷ []) in let b = own idle in let c = driven idle in omega arith);
    }

pub IsMark-loaded : (w value n : ℕ) (traces : List WordTrace) (id : ℕ) (t : WordTrace) → get_elem? traces id ≡ some t → IsMark value n traces → IsMark value n (set traces id (grown t (load w n)))
IsMark-loaded w value n traces id t at h =
    let few = h.once in
    IsMark-grown value n n traces id t (load w n) at h (λ x is. is) (inr refl) (omega arith) (omega arith) (λ some. h.ended (omega arith)) (λ _. refl)

pub IsMark-shut : (w value : ℕ) (traces : List WordTrace) (id : ℕ) (t : WordTrace) → get_elem? traces id ≡ some t → IsMark value 0 traces → 0 < wins_in t → total (made_in is_shut) traces ≡ 0
    → IsMark value (value + 1) (set traces id (grown t (shut w (value + 1))))
IsMark-shut w value traces id t at h won none =
    IsMark-grown value 0 (value + 1) traces id t (shut w (value + 1)) at h (λ x is. ⊎_elim (λ z. inl z) (λ z. inl z) is) (inr refl) (omega arith) (omega arith) (λ _. refl) (λ idle. absurd (omega arith))

-- a step on the claim
pub IsMark-claimed : (value n : ℕ) (traces : List WordTrace) (id : ℕ) (t : WordTrace) (s : Step) → get_elem? traces id ≡ some t → IsMark value n traces → IsMark value n (set traces id (claimed t s))
IsMark-claimed value n traces id t s at h =
    let u : WordTrace = claimed t s in
    let same : (f : Step → ℕ) → total (made_in f) (set traces id u) ≡ total (made_in f) traces = λ f.
    let a : total (made_in f) (set traces id u) + total f t.made ≡ total (made_in f) traces + total f t.made = total-set (made_in f) traces id t u at in omega arith in
    let own = Each-at ShutsAsDriver traces id t h.driven at in
    record {
      known = Each-set (KnowsZeroOr n) traces id u h.known (Each-at (KnowsZeroOr n) traces id t h.known at);
      once = rw (same is_shut) h.once;
      left = rw (same shut_to) h.left;
      ended = rw (same is_shut) h.ended;
      driven = Each-set ShutsAsDriver traces id u h.driven
          (λ idle. let a : total is_win (t.claim ++ s ∷ []) ≡ total is_win t.claim + (is_win s + 0) = total-append is_win t.claim (s ∷ []) in own (omega arith));
    }

-- a step on the value of a context that nobody has closed
pub IsMark-valued : (value other n : ℕ) (traces : List WordTrace) → total (made_in is_shut) traces ≡ 0 → IsMark value n traces → IsMark other n traces
IsMark-valued value other n traces none h = record { known = h.known; once = h.once; left = h.left; ended = λ some. absurd (omega arith); driven = h.driven }
