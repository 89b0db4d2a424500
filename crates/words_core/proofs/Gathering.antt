-- A seat with all parts has made all steps.
use Rattle.std.proofs.Common.{◌≡◌, ℕ, ◌+◌, ◌-◌, ◌<◌, ◌≤◌, List, [], map, slice_index, ⊎_elim, sym, refl, ap, subst, ◌∙◌, arith}
use mathlib.Core.Option.{some, none}
use lib.ListN.{get_elem?}
use Rattle.atomic_table.specs.Table.{step, Allows, keeps}
use Rattle.atomic_table.proofs.Lists.{at_map}
use Rattle.words_core.specs.declared.seat.TheConstants.{PARTS}
use Rattle.words_core.specs.declared.trace.Step.{Step}
use Rattle.words_core.specs.declared.trace.View.{View}
use Rattle.words_core.specs.declared.words.Sizes.{Sizes}
use Rattle.words_core.specs.declared.words.TheConstants.{MARK}
use Rattle.words_core.specs.theorem.Layout.{value_place, claim_place, mark_place, IsClaimOrFlag, IsBoardWord}
use Rattle.words_core.specs.theorem.Trace.{on, amount_of, total, raised, is_win, is_loss, is_shut, shut_to, is_test, is_load_of, is_add_to, is_raise_to, is_sight_of, load, shown, IsDecided}
use Rattle.words_core.specs.Rule.{WordTrace, context_trace, mark_trace, word_trace, made_in, known_in, wins_on, IsAtMost, KnowsZeroOr, RaisesNoMore, parts_of, IsEmptyIfSpent, IsKept}
use Rattle.words_core.specs.Plays.{Holder, view_with, tests_by, loads_total, loads_total_mark, loads_flag, loads_top}
use Rattle.words_core.proofs.Totals.{total_at, Each-at, Each-weaker, total_alone, total-map}
use Rattle.words_core.proofs.Traces.{total-tests, raised_le}
use Rattle.words_core.proofs.ValueSteps.{IsValue-loaded}
use Rattle.words_core.proofs.MarkSteps.{IsMark-loaded}
use Rattle.words_core.proofs.SetOnceSteps.{IsSetOnce-loaded}
use Rattle.words_core.proofs.EntrySteps.{IsEntry-shown}
use Rattle.words_core.proofs.WordKinds.{IsClaimOrFlag-claim}
use Rattle.words_core.proofs.Frames.{IsKept-value, IsKept-mark, IsKept-set_once, IsKept-entry}
use Rattle.words_core.proofs.Loading.{seen_by_le, mark_known}
use Rattle.words_core.proofs.Claiming.{tests_by-is, tests_by_one}

-- a total over all traces, which is 0 for an empty one, is the whole seat's
pub total_whole : (z : Sizes) (words : List ℕ) (views : List View) (id : ℕ) (v : View) (g : List Step → ℕ) → g [] ≡ 0 → get_elem? views id ≡ some v → IsKept z words views → v.parts ≡ PARTS
    → total (λ (u : View). g u.trace) views ≡ g v.trace
total_whole z words views id v g empty at h all =
    let full = h.parts in
    total_alone parts_of (λ (u : View). g u.trace) views id v at
    (Each-weaker IsEmptyIfSpent (λ (u : View). u.parts ≡ 0 → g u.trace ≡ 0) views (λ u spent idle. ap g (spent idle).1 ∙ empty) h.spent)
    (omega arith)

-- the whole seat has all steps on one word
total-word_trace_whole : (z : Sizes) (words : List ℕ) (views : List View) (id k : ℕ) (v : View) (f : Step → ℕ) → get_elem? views id ≡ some v → IsKept z words views → v.parts ≡ PARTS
    → total (made_in f) (map (word_trace k) views) ≡ total f (on k v.trace)
total-word_trace_whole z words views id k v f at h all = total-map (made_in f) (word_trace k) views ∙ total_whole z words views id v (λ steps. total f (on k steps)) refl at h all

-- the whole seat's wins and losses of a claim or a flag
pub IsDecided-whole : (z : Sizes) (words : List ℕ) (views : List View) (id k : ℕ) (v : View) → IsClaimOrFlag z k → get_elem? views id ≡ some v → IsKept z words views → v.parts ≡ PARTS → IsDecided k v.trace × (slice_index words k ≡ total is_win (on k v.trace))
IsDecided-whole z words views id k v is at h all =
    let fits = h.set_once k is in
    let wins = total-word_trace_whole z words views id k v is_win at h all in let won = fits.won in
    let mine : wins_on k v ≤ total (wins_on k) views = total_at (wins_on k) views id v at in let few = h.won_once k in
    let tests : total is_test (on k v.trace) ≡ total is_win (on k v.trace) + total is_loss (on k v.trace) = total-tests (on k v.trace) in
    let known : tests_by k v ≡ total is_test (on k v.start) + total is_test (on k v.trace) = tests_by-is k v in
    let all_known : tests_by k v ≤ total (known_in is_test) (map (word_trace k) views) = tests_by_one views id k v at in
    (record { once = omega arith; lost = λ some. let set = fits.tested (omega arith) in omega arith }, won ∙ wins)

pub loads_total-allowed : (z : Sizes) (slots id c : ℕ) (me : Holder) → c < z.contexts → me.0.parts ≡ PARTS → Allows (λ s. IsKept z s.words s.views) slots id me (value_place c) (λ n. n) (loads_total (step slots (value_place c) 0 0 none) me)
loads_total-allowed z slots id c me low all s h homes at small =
    let v : View = me.0 in let w : ℕ = value_place c in let n : ℕ = slice_index s.words w in let views : List View = s.views in let traces : List WordTrace = map (context_trace c) views in
    let fits = h.values c low in let there = at_map (context_trace c) views id v at in
    let mine = Each-at (IsAtMost n) traces id (context_trace c v) fits.traced.below there in
    let own : (f : Step → ℕ) → total (made_in f) traces ≡ total f (on w v.trace) = λ f. total-map (made_in f) (context_trace c) views ∙ total_whole z s.words views id v (λ steps. total f (on w steps)) refl at h all in (
      view_with v (load w n),
      keeps,
      tt,
      IsKept-value z s.words views id c n v (load w n) low (omega arith) at refl refl h (IsValue-loaded w n traces id (context_trace c v) there fits) (h.marks c low),
      (
        refl,
        seen_by_le w n v mine.0 mine.1,
        fits.summed ∙ own amount_of,
        λ x pos some.
            let mine : total (is_load_of x) (on w v.start) + total (is_load_of x) (on w v.trace) ≤ total (known_in (is_load_of x)) traces = total_at (known_in (is_load_of x)) traces id (context_trace c v) there in
            let found = fits.traced.found x pos (omega arith) in let same = own (is_add_to x) in omega arith,
        (IsDecided-whole z s.words views id (claim_place c) v (IsClaimOrFlag-claim z c low) at h all).0,
      ),
    )

-- the whole seat has made the closing of the mark
pub loads_total_mark-allowed : (z : Sizes) (slots id c : ℕ) (me : Holder) → c < z.contexts → me.0.parts ≡ PARTS → Allows (λ s. IsKept z s.words s.views) slots id me (mark_place c) (λ n. n) (loads_total_mark (step slots (mark_place c) 0 0 none) me)
loads_total_mark-allowed z slots id c me low all s h homes at small =
    let v : View = me.0 in let w : ℕ = mark_place c in let n : ℕ = slice_index s.words w in let views : List View = s.views in let traces : List WordTrace = map (mark_trace c) views in
    let value : ℕ = slice_index s.words (value_place c) in
    let fits = h.marks c low in let there = at_map (mark_trace c) views id v at in
    let known = mark_known z s.words views id c v low at h in
    let own : (f : Step → ℕ) → total (made_in f) traces ≡ total f (on w v.trace) = λ f. total-map (made_in f) (mark_trace c) views ∙ total_whole z s.words views id v (λ steps. total f (on w steps)) refl at h all in
    let added : value ≡ total amount_of (on (value_place c) v.trace) =
    (h.values c low).summed ∙ total-map (made_in amount_of) (context_trace c) views ∙ total_whole z s.words views id v (λ steps. total amount_of (on (value_place c) steps)) refl at h all in
    let back : w - MARK ≡ value_place c = omega arith in
    let shuts = own is_shut in (
      view_with v (load w n),
      keeps,
      tt,
      IsKept-mark z s.words views id c n v (load w n) low (omega arith) at refl refl h (IsMark-loaded w value n traces id (mark_trace c v) there fits),
      (
        refl,
        ⊎_elim (λ none. omega arith) (λ is. omega arith) known,
        fits.left ∙ own shut_to,
        subst (λ (k : ℕ). k ≤ 1) shuts fits.once,
        λ some. subst (λ (k : ℕ). n ≡ total amount_of (on k v.trace) + 1) (sym back) (let last = fits.ended (omega arith) in omega arith),
        (Each-at (KnowsZeroOr n) traces id (mark_trace c v) fits.known there).1,
      ),
    )

pub loads_flag-allowed : (z : Sizes) (slots id k : ℕ) (me : Holder) → IsClaimOrFlag z k → me.0.parts ≡ PARTS → Allows (λ s. IsKept z s.words s.views) slots id me k (λ n. n) (loads_flag (step slots k 0 0 none) me)
loads_flag-allowed z slots id k me is all s h homes at small =
    let v : View = me.0 in let n : ℕ = slice_index s.words k in let views : List View = s.views in let traces : List WordTrace = map (word_trace k) views in
    let fits = h.set_once k is in let there = at_map (word_trace k) views id v at in
    let mine = Each-at (IsAtMost n) traces id (word_trace k v) fits.below there in
    let whole = IsDecided-whole z s.words views id k v is at h all in
    let known : tests_by k v ≤ total (known_in is_test) traces = tests_by_one views id k v at in (
      view_with v (load k n),
      keeps,
      tt,
      IsKept-set_once z s.words views id k n v (load k n) is (omega arith) at refl (let few = h.won_once k in omega arith) h (IsSetOnce-loaded k n traces id (word_trace k v) there fits),
      (refl, seen_by_le k n v mine.0 mine.1, whole.1, whole.0, λ some. fits.tested (omega arith)),
    )

pub loads_top-allowed : (z : Sizes) (slots id k : ℕ) (me : Holder) → IsBoardWord z k → me.0.parts ≡ PARTS → Allows (λ s. IsKept z s.words s.views) slots id me k (λ n. n) (loads_top (step slots k 0 0 none) me)
loads_top-allowed z slots id k me is all s h homes at small =
    let v : View = me.0 in let n : ℕ = slice_index s.words k in let views : List View = s.views in let traces : List WordTrace = map (word_trace k) views in
    let fits = h.entries k is in let there = at_map (word_trace k) views id v at in
    let mine = Each-at (IsAtMost n) traces id (word_trace k v) fits.traced.below there in
    let high : raised (on k v.trace) ≤ n = Each-at (RaisesNoMore n) traces id (word_trace k v) fits.raises there in
    let own : (f : Step → ℕ) → total (made_in f) traces ≡ total f (on k v.trace) = λ f. total-word_trace_whole z s.words views id k v f at h all in (
      view_with v (shown k n),
      keeps,
      tt,
      IsKept-entry z s.words views id k n v (shown k n) is (omega arith) at refl refl h (IsEntry-shown k n traces id (word_trace k v) there fits),
      (
        refl,
        seen_by_le k n v mine.0 mine.1,
        ⊎_elim (λ none. omega arith) (λ some. let same = own (is_raise_to n) in let up : n ≤ raised (on k v.trace) = raised_le n (on k v.trace) (omega arith) in omega arith) fits.traced.left,
        λ x pos some.
            let mine : total (is_sight_of x) (on k v.start) + total (is_sight_of x) (on k v.trace) ≤ total (known_in (is_sight_of x)) traces = total_at (known_in (is_sight_of x)) traces id (word_trace k v) there in
            let found = fits.traced.found x pos (omega arith) in let same = own (is_raise_to x) in omega arith,
      ),
    )
