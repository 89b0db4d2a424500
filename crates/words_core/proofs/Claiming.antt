-- A test-and-set keeps the rule.
use Rattle.std.proofs.Common.{◌≡◌, ℕ, ◌+◌, ◌-◌, ◌<◌, ◌≤◌, List, map, set, slice_index, bit_or, ⊎_elim, sym, refl, ap, ◌∙◌, subst, arith}
use mathlib.Core.Option.{some, none}
use mathlib.Core.Logic.{dite}
use native.Mathlib.Decide.{ℕ_discrete}
use lib.ListN.{get_elem?}
use Rattle.atomic_table.specs.Table.{step, Allows, keeps}
use Rattle.atomic_table.proofs.Lists.{at_map}
use Rattle.words_core.specs.declared.trace.Step.{Step}
use Rattle.words_core.specs.declared.trace.View.{View}
use Rattle.words_core.specs.declared.words.Sizes.{Sizes}
use Rattle.words_core.specs.declared.words.TheConstants.{CLAIM}
use Rattle.words_core.specs.theorem.Layout.{value_place, claim_place, mark_place, IsClaimOrFlag}
use Rattle.words_core.specs.theorem.Trace.{on, total, added, is_win, is_test, wins_of, shuts_of, set_once_step}
use Rattle.words_core.specs.Rule.{context_trace, mark_trace, word_trace, made_in, known_in, wins_on, AddsAsDriver, ShutsAsDriver, IsKept}
use Rattle.words_core.specs.Plays.{Holder, view_with, tests_by, claims_context, sets_once}
use Rattle.words_core.proofs.Totals.{total_at, total-append, total-map, Each-at}
use Rattle.words_core.proofs.Traces.{on-append, added_none}
use Rattle.words_core.proofs.ValueSteps.{none_or_some}
use Rattle.words_core.proofs.SetOnceSteps.{IsSetOnce-set}
use Rattle.words_core.proofs.Driving.{set_once_step-word}
use Rattle.words_core.proofs.Frames.{IsKept-set_once}
use Rattle.words_core.proofs.WordKinds.{IsClaimOrFlag-claim}

-- all wins of a claim or a flag are its word
wins-set_once : (z : Sizes) (words : List ℕ) (views : List View) (k : ℕ) → IsClaimOrFlag z k → IsKept z words views → total (wins_on k) views ≡ slice_index words k
wins-set_once z words views k is h = sym (total-map (made_in is_win) (word_trace k) views) ∙ sym (h.set_once k is).won

-- it is won only when it was 0
set_once_step-wins : (k n : ℕ) → n ≤ 1 → n + is_win (set_once_step k n) ≤ 1
set_once_step-wins k n low = dite (ℕ_discrete n 0) (λ e. subst (λ (m : ℕ). m + is_win (set_once_step k m) ≤ 1) (sym e) (omega arith)) (λ ne. let e : n ≡ 1 = omega arith in subst (λ (m : ℕ). m + is_win (set_once_step k m) ≤ 1) (sym e) (omega arith))

pub IsKept-set : (z : Sizes) (words : List ℕ) (views : List View) (id k : ℕ) (v : View) → IsClaimOrFlag z k → 0 < v.parts → get_elem? views id ≡ some v → IsKept z words views
    → IsKept z (set words k (bit_or (slice_index words k) 1)) (set views id (view_with v (set_once_step k (slice_index words k))))
IsKept-set z words views id k v is live at h =
    let n : ℕ = slice_index words k in
    let s : Step = set_once_step k n in
    let wins : total (wins_on k) views ≡ n = wins-set_once z words views k is h in
    let few = h.won_once k in
    let one : n + is_win s ≤ 1 = set_once_step-wins k n (omega arith) in
    let here : total (wins_on k) views + is_win s ≤ 1 = omega arith in
    IsKept-set_once z words views id k (bit_or n 1) v s is live at (set_once_step-word k n) (subst (λ (w : ℕ). total (wins_on w) views + is_win s ≤ 1) (sym (set_once_step-word k n)) here) h
    (IsSetOnce-set k n (map (word_trace k) views) id (word_trace k v) (at_map (word_trace k) views id v at) (omega arith) (h.set_once k is))

-- a seat that has won nothing has added nothing
added_unclaimed : (z : Sizes) (words : List ℕ) (views : List View) (id c : ℕ) (v : View) → c < z.contexts → get_elem? views id ≡ some v → IsKept z words views → wins_of (claim_place c) v.trace ≡ 0 → added (on (value_place c) v.trace) ≡ 0
added_unclaimed z words views id c v low at h idle =
    added_none (on (value_place c) v.trace) (Each-at AddsAsDriver (map (context_trace c) views) id (context_trace c v) (h.values c low).driven (at_map (context_trace c) views id v at) idle)

-- and has closed nothing
unshut_unclaimed : (z : Sizes) (words : List ℕ) (views : List View) (id c : ℕ) (v : View) → c < z.contexts → get_elem? views id ≡ some v → IsKept z words views → wins_of (claim_place c) v.trace ≡ 0 → shuts_of (mark_place c) v.trace ≡ 0
unshut_unclaimed z words views id c v low at h idle = Each-at ShutsAsDriver (map (mark_trace c) views) id (mark_trace c v) (h.marks c low).driven (at_map (mark_trace c) views id v at) idle

-- how often a seat knows that a word was won or lost
pub tests_by-is : (k : ℕ) (v : View) → tests_by k v ≡ total is_test (on k v.start) + total is_test (on k v.trace)
tests_by-is k v = ap (total is_test) (on-append k v.start v.trace) ∙ total-append is_test (on k v.start) (on k v.trace)

pub tests_by_one : (views : List View) (id k : ℕ) (v : View) → get_elem? views id ≡ some v → tests_by k v ≤ total (known_in is_test) (map (word_trace k) views)
tests_by_one views id k v at =
    let is : tests_by k v ≡ total is_test (on k v.start) + total is_test (on k v.trace) = tests_by-is k v in
    let one : total is_test (on k v.start) + total is_test (on k v.trace) ≤ total (known_in is_test) (map (word_trace k) views) = total_at (known_in is_test) (map (word_trace k) views) id (word_trace k v) (at_map (word_trace k) views id v at) in
    omega arith

-- no one knows that a word that is 0 was won or lost
untested : (z : Sizes) (words : List ℕ) (views : List View) (id k : ℕ) (v : View) → IsClaimOrFlag z k → get_elem? views id ≡ some v → IsKept z words views → slice_index words k ≡ 0 → (tests_by k v ≡ 0) × (wins_of k v.trace ≡ 0)
untested z words views id k v is at h free =
    let fits = h.set_once k is in
    let mine : tests_by k v ≤ total (known_in is_test) (map (word_trace k) views) = tests_by_one views id k v at in
    let own : wins_on k v ≤ total (wins_on k) views = total_at (wins_on k) views id v at in
    let wins : total (wins_on k) views ≡ slice_index words k = wins-set_once z words views k is h in
    (⊎_elim (λ none. none) (λ some. let one = fits.tested (omega arith) in absurd (omega arith)) (none_or_some (tests_by k v)), omega arith)

pub claims_context-allowed : (z : Sizes) (slots id c : ℕ) (me : Holder) → c < z.contexts → 0 < me.0.parts → Allows (λ s. IsKept z s.words s.views) slots id me (claim_place c) (λ n. bit_or n 1) (claims_context (step slots (claim_place c) 1 0 none) me)
claims_context-allowed z slots id c me low live s h homes at small =
    let v : View = me.0 in let k : ℕ = claim_place c in let n : ℕ = slice_index s.words k in let views : List View = s.views in
    let is = IsClaimOrFlag-claim z c low in
    let back : k - CLAIM ≡ value_place c = omega arith in
    let on_ : k + 1 ≡ mark_place c = omega arith in (
      view_with v (set_once_step k n),
      keeps,
      tt,
      IsKept-set z s.words views id k v is live at h,
      (
        (refl, λ free. untested z s.words views id k v is at h free),
        λ free. (
          subst (λ (w : ℕ). added (on w v.trace) ≡ 0) (sym back) (added_unclaimed z s.words views id c v low at h (untested z s.words views id k v is at h free).1),
          subst (λ (w : ℕ). shuts_of w v.trace ≡ 0) (sym on_) (unshut_unclaimed z s.words views id c v low at h (untested z s.words views id k v is at h free).1),
        ),
      ),
    )

pub sets_once-allowed : (z : Sizes) (slots id k : ℕ) (me : Holder) → IsClaimOrFlag z k → 0 < me.0.parts → Allows (λ s. IsKept z s.words s.views) slots id me k (λ n. bit_or n 1) (sets_once (step slots k 1 0 none) me)
sets_once-allowed z slots id k me is live s h homes at small = (
  view_with me.0 (set_once_step k (slice_index s.words k)),
  keeps,
  tt,
  IsKept-set z s.words s.views id k me.0 is live at h,
  (refl, λ free. untested z s.words s.views id k me.0 is at h free),
)
