-- A view that is split keeps the rule.
use Rattle.std.proofs.Common.{◌≡◌, ℕ, ◌+◌, ◌-◌, ◌<◌, ◌≤◌, List, [], ◌∷◌, ◌++◌, map, set, slice_index, sym, refl, ◌∙◌, arith}
use mathlib.Core.Option.{some}
use lib.ListN.{get_elem?}
use Rattle.std.proofs.lemmas.List.{map-append}
use Rattle.atomic_table.specs.Table.{Splits}
use Rattle.atomic_table.proofs.Lists.{at_map}
use Rattle.words_core.specs.declared.trace.Step.{Step}
use Rattle.words_core.specs.declared.trace.View.{View}
use Rattle.words_core.specs.declared.words.Sizes.{Sizes}
use Rattle.words_core.specs.theorem.Layout.{value_place, claim_place, mark_place}
use Rattle.words_core.specs.theorem.Trace.{on, amount_of, total, greatest, is_win, is_shut, shut_to, is_test, is_load_of, is_add_to, is_raise_to, is_sight_of}
use Rattle.words_core.specs.Rule.{WordTrace, claimed_trace, context_trace, mark_trace, word_trace, made_in, known_in, wins_on, IsAtMost, RaisesNoMore, HasSums, AddsAsDriver, ShutsAsDriver, KnowsZeroOr, parts_of, IsEmptyIfSpent, KnowsSizes, IsTraced, IsValue, IsMark, IsSetOnce, IsEntry, IsKept}
use Rattle.words_core.specs.Plays.{parent_view, child_view}
use Rattle.words_core.proofs.Totals.{total-set, total-append, total_at, Each-set, Each-at, Each-last, map-set_same}
use Rattle.words_core.proofs.Traces.{on-append, greatest-append_le}
use Rattle.words_core.proofs.MarkSteps.{IsZeroOr-append}
use Rattle.words_core.proofs.Frames.{same_word}

-- the trace of a new seat on a word
abbrev pub started : List Step → WordTrace
started start = record { start = start; made = []; claim = [] }

total-started : (f : Step → ℕ) (traces : List WordTrace) (start : List Step) → total (made_in f) (traces ++ started start ∷ []) ≡ total (made_in f) traces
total-started f traces start = let a : total (made_in f) (traces ++ started start ∷ []) ≡ total (made_in f) traces + (0 + 0) = total-append (made_in f) traces (started start ∷ []) in omega arith

-- a new seat starts with steps that others know
pub IsTraced-started : (leaves finds : ℕ → Step → ℕ) (n : ℕ) (traces : List WordTrace) (start : List Step) → greatest start ≤ n → ((x : ℕ) → total (finds x) start ≤ total (known_in (finds x)) traces)
    → IsTraced leaves finds n traces → IsTraced leaves finds n (traces ++ started start ∷ [])
IsTraced-started leaves finds n traces start low known h =
    let t : WordTrace = started start in record {
      below = Each-last (IsAtMost n) traces t h.below (low, omega arith);
      left = rw (total-started (leaves n) traces start) h.left;
      found = λ x pos some.
          let f : WordTrace → ℕ = λ u. total (finds x) u.start + total (finds x) u.made in
          let a : total f (traces ++ t ∷ []) ≡ total f traces + ((total (finds x) start + 0) + 0) = total-append f traces (t ∷ []) in
          let b : total (finds x) start ≤ total f traces = known x in
          rw (total-started (leaves x) traces start) (h.found x pos (omega arith));
    }

pub IsValue-started : (n : ℕ) (traces : List WordTrace) (start : List Step) → greatest start ≤ n → ((x : ℕ) → total (is_load_of x) start ≤ total (known_in (is_load_of x)) traces)
    → IsValue n traces → IsValue n (traces ++ started start ∷ [])
IsValue-started n traces start low known h =
    let t : WordTrace = started start in record {
      traced = IsTraced-started is_add_to is_load_of n traces start low known h.traced;
      summed = h.summed ∙ sym (total-started amount_of traces start);
      running = Each-last HasSums traces t h.running tt;
      driven = Each-last AddsAsDriver traces t h.driven (λ _. refl);
    }

-- a step that one seat knows, all traces together know
known_by_one : (f : Step → ℕ) (traces : List WordTrace) (id : ℕ) (t : WordTrace) → get_elem? traces id ≡ some t → total f (t.start ++ t.made) ≤ total (known_in f) traces
known_by_one f traces id t at =
    let b : total f (t.start ++ t.made) ≡ total f t.start + total f t.made = total-append f t.start t.made in
    let d : total f t.start + total f t.made ≤ total (known_in f) traces = total_at (known_in f) traces id t at in omega arith

-- its start is all that its parent knows
IsValue-parted : (n : ℕ) (traces : List WordTrace) (id : ℕ) (t : WordTrace) → get_elem? traces id ≡ some t → IsValue n traces → IsValue n (traces ++ started (t.start ++ t.made) ∷ [])
IsValue-parted n traces id t at h =
    let mine = Each-at (IsAtMost n) traces id t h.traced.below at in
    IsValue-started n traces (t.start ++ t.made) (greatest-append_le t.start t.made n mine.0 mine.1)
    (λ x. known_by_one (is_load_of x) traces id t at) h

IsMark-parted : (value n : ℕ) (traces : List WordTrace) (id : ℕ) (t : WordTrace) → get_elem? traces id ≡ some t → IsMark value n traces → IsMark value n (traces ++ started (t.start ++ t.made) ∷ [])
IsMark-parted value n traces id t at h =
    let new : WordTrace = started (t.start ++ t.made) in
    let mine = Each-at (KnowsZeroOr n) traces id t h.known at in
    record {
      known = Each-last (KnowsZeroOr n) traces new h.known (IsZeroOr-append n t.start t.made mine.0 mine.1, tt);
      once = rw (total-started is_shut traces (t.start ++ t.made)) h.once;
      left = h.left ∙ sym (total-started shut_to traces (t.start ++ t.made));
      ended = rw (total-started is_shut traces (t.start ++ t.made)) h.ended;
      driven = Each-last ShutsAsDriver traces new h.driven (λ _. refl);
    }

IsSetOnce-started : (n : ℕ) (traces : List WordTrace) (start : List Step) → greatest start ≤ n → (total is_test start ≤ total (known_in is_test) traces) → IsSetOnce n traces → IsSetOnce n (traces ++ started start ∷ [])
IsSetOnce-started n traces start low known h =
    let t : WordTrace = started start in
    let more : total (known_in is_test) (traces ++ t ∷ []) ≡ total (known_in is_test) traces + ((total is_test start + 0) + 0) = total-append (known_in is_test) traces (t ∷ []) in
    record {
      below = Each-last (IsAtMost n) traces t h.below (low, omega arith);
      won = h.won ∙ sym (total-started is_win traces start);
      tested = λ some. h.tested (omega arith);
    }

IsEntry-started : (n : ℕ) (traces : List WordTrace) (start : List Step) → greatest start ≤ n → ((x : ℕ) → total (is_sight_of x) start ≤ total (known_in (is_sight_of x)) traces) → IsEntry n traces → IsEntry n (traces ++ started start ∷ [])
IsEntry-started n traces start low known h = record {
  traced = IsTraced-started is_raise_to is_sight_of n traces start low known h.traced;
  raises = Each-last (RaisesNoMore n) traces (started start) h.raises (omega arith);
}

IsSetOnce-parted : (n : ℕ) (traces : List WordTrace) (id : ℕ) (t : WordTrace) → get_elem? traces id ≡ some t → IsSetOnce n traces → IsSetOnce n (traces ++ started (t.start ++ t.made) ∷ [])
IsSetOnce-parted n traces id t at h =
    let mine = Each-at (IsAtMost n) traces id t h.below at in
    IsSetOnce-started n traces (t.start ++ t.made) (greatest-append_le t.start t.made n mine.0 mine.1) (known_by_one is_test traces id t at) h

IsEntry-parted : (n : ℕ) (traces : List WordTrace) (id : ℕ) (t : WordTrace) → get_elem? traces id ≡ some t → IsEntry n traces → IsEntry n (traces ++ started (t.start ++ t.made) ∷ [])
IsEntry-parted n traces id t at h =
    let mine = Each-at (IsAtMost n) traces id t h.traced.below at in
    IsEntry-started n traces (t.start ++ t.made) (greatest-append_le t.start t.made n mine.0 mine.1) (λ x. known_by_one (is_sight_of x) traces id t at) h

-- the trace of a new seat on a word and a claim
claimed_trace-parted : (k claim n : ℕ) (views : List View) (id : ℕ) (v : View) → get_elem? views id ≡ some v
    → map (claimed_trace k claim) (set views id (parent_view n v) ++ child_view n v ∷ []) ≡ map (claimed_trace k claim) views ++ started (on k v.start ++ on k v.trace) ∷ []
claimed_trace-parted k claim n views id v at =
    let l : View = parent_view n v in
    map-append (claimed_trace k claim) (set views id l) (child_view n v ∷ [])
    ∙ (λ i. map-set_same (claimed_trace k claim) views id v l at refl i ++ record { start = on-append k v.start v.trace i; made = []; claim = [] } ∷ [])

-- the trace of a new seat on one word
word_trace-parted : (k n : ℕ) (views : List View) (id : ℕ) (v : View) → get_elem? views id ≡ some v
    → map (word_trace k) (set views id (parent_view n v) ++ child_view n v ∷ []) ≡ map (word_trace k) views ++ started (on k v.start ++ on k v.trace) ∷ []
word_trace-parted k n views id v at =
    let l : View = parent_view n v in
    map-append (word_trace k) (set views id l) (child_view n v ∷ []) ∙ (λ i. map-set_same (word_trace k) views id v l at refl i ++ record { start = on-append k v.start v.trace i; made = []; claim = [] } ∷ [])

pub split-allowed : (z : Sizes) (id n : ℕ) (v : View) → 0 < n → n < v.parts → Splits {S = Unit {0}} (λ s. IsKept z s.words s.views) id v (parent_view n v) (child_view n v)
split-allowed z id n v pos less s h at =
    let l : View = parent_view n v in let r : View = child_view n v in let views : List View = s.views in let vs : List View = set views id l in
    let one : total parts_of vs + v.parts ≡ total parts_of views + (v.parts - n) = total-set parts_of views id v l at in
    let two : total parts_of (vs ++ r ∷ []) ≡ total parts_of vs + (n + 0) = total-append parts_of vs (r ∷ []) in
    let all = h.parts in
    record {
      counted = h.counted;
      parts = omega arith;
      spent = Each-last IsEmptyIfSpent vs r (Each-set IsEmptyIfSpent views id l h.spent (λ bad. absurd (omega arith))) (λ bad. absurd (omega arith));
      sized = let mine = Each-at (KnowsSizes z) views id v h.sized at (omega arith) in Each-last (KnowsSizes z) vs r (Each-set (KnowsSizes z) views id l h.sized (λ _. mine)) (λ _. mine);
      won_once = λ w.
          let few = h.won_once w in
          let a : total (wins_on w) vs + wins_on w v ≡ total (wins_on w) views + wins_on w v = total-set (wins_on w) views id v l at in
          let b : total (wins_on w) (vs ++ r ∷ []) ≡ total (wins_on w) vs + (0 + 0) = total-append (wins_on w) vs (r ∷ []) in omega arith;
      values = λ c low. same_word IsValue _ _ _ _ refl (claimed_trace-parted (value_place c) (claim_place c) n views id v at)
          (IsValue-parted (slice_index s.words (value_place c)) (map (context_trace c) views) id (context_trace c v) (at_map (context_trace c) views id v at) (h.values c low));
      marks = λ c low. same_word (IsMark (slice_index s.words (value_place c))) _ _ _ _ refl (claimed_trace-parted (mark_place c) (claim_place c) n views id v at)
          (IsMark-parted (slice_index s.words (value_place c)) (slice_index s.words (mark_place c)) (map (mark_trace c) views) id (mark_trace c v) (at_map (mark_trace c) views id v at) (h.marks c low));
      set_once = λ k is. same_word IsSetOnce _ _ _ _ refl (word_trace-parted k n views id v at) (IsSetOnce-parted (slice_index s.words k) (map (word_trace k) views) id (word_trace k v) (at_map (word_trace k) views id v at) (h.set_once k is));
      entries = λ k is. same_word IsEntry _ _ _ _ refl (word_trace-parted k n views id v at) (IsEntry-parted (slice_index s.words k) (map (word_trace k) views) id (word_trace k v) (at_map (word_trace k) views id v at) (h.entries k is));
      unused = h.unused;
    }
