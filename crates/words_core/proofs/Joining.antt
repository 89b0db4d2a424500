-- Two views that are joined keep the rule.
use Rattle.std.proofs.Common.{◌≡◌, ◌≢◌, ℕ, ◌+◌, ◌<◌, ◌≤◌, ◌⊎◌, inl, inr, List, [], ◌++◌, map, set, slice_index, sym, refl, ap, ◌∙◌, subst, arith}
use mathlib.Core.Option.{some, none}
use mathlib.Core.Logic.{dite}
use native.Mathlib.Decide.{ℕ_discrete}
use lib.ListN.{get_elem?}
use Rattle.std.proofs.lemmas.List.{map-set, set-get_or}
use Rattle.atomic_table.specs.Table.{step, Allows, Joins, keeps}
use Rattle.atomic_table.proofs.Lists.{at_map, set_again, set_else}
use Rattle.words_core.specs.declared.trace.Step.{Step}
use Rattle.words_core.specs.declared.trace.View.{View}
use Rattle.words_core.specs.declared.words.Sizes.{Sizes}
use Rattle.words_core.specs.theorem.Layout.{value_place, claim_place, mark_place}
use Rattle.words_core.specs.theorem.Trace.{on, amount_of, total, added, is_add, is_win, is_shut, shut_to, is_test, is_load_of, is_add_to, is_raise_to, is_sight_of, HasRunningSums}
use Rattle.words_core.specs.Rule.{Each, WordTrace, claimed_trace, context_trace, mark_trace, word_trace, made_in, known_in, wins_in, wins_on, IsAtMost, RaisesNoMore, HasSums, AddsAsDriver, ShutsAsDriver, KnowsZeroOr, parts_of, IsEmptyIfSpent, KnowsSizes, IsTraced, IsValue, IsMark, IsSetOnce, IsEntry, IsKept}
use Rattle.words_core.specs.Plays.{Holder, counts_parts, joined_view, joined_from}
use Rattle.words_core.proofs.Totals.{total-append, total_at, Each-set, Each-at, total-joined, total_two, total-map}
use Rattle.words_core.proofs.Traces.{on-append, greatest-append_le, raised-append_le, HasRunningSums-append, added_none, HasRunningSums-none}
use Rattle.words_core.proofs.MarkSteps.{IsZeroOr-append}
use Rattle.words_core.proofs.Frames.{same_word}

abbrev both_traces : WordTrace → WordTrace → WordTrace
both_traces t u = record { start = t.start ++ u.start; made = t.made ++ u.made; claim = t.claim ++ u.claim }

abbrev no_trace : WordTrace
no_trace = record { start = []; made = []; claim = [] }

-- one of the two has added nothing
HasRunningSums-both : (xs ys : List Step) → HasRunningSums 0 xs → HasRunningSums 0 ys → (total is_add xs ≡ 0) ⊎ (total is_add ys ≡ 0) → HasRunningSums 0 (xs ++ ys)
HasRunningSums-both xs ys a b (inl idle) = HasRunningSums-append 0 xs ys a (subst (λ (k : ℕ). HasRunningSums k ys) (let e = added_none xs idle in omega arith) b)
HasRunningSums-both xs ys a b (inr idle) = HasRunningSums-append 0 xs ys a (HasRunningSums-none (0 + added xs) ys idle)

total-both : (f : Step → ℕ) (traces : List WordTrace) (id other : ℕ) (t u : WordTrace) → get_elem? traces id ≡ some t → other ≢ id → get_elem? traces other ≡ some u
    → total (made_in f) (set (set traces id (both_traces t u)) other no_trace) ≡ total (made_in f) traces
total-both f traces id other t u at apart at' = total-joined (made_in f) traces id other t u (both_traces t u) no_trace at apart at' (total-append f t.made u.made) refl

below-joined : (n : ℕ) (traces : List WordTrace) (id other : ℕ) (t u : WordTrace) → get_elem? traces id ≡ some t → other ≢ id → get_elem? traces other ≡ some u → Each (IsAtMost n) traces → Each (IsAtMost n) (set (set traces id (both_traces t u)) other no_trace)
below-joined n traces id other t u at apart at' h =
    let b : WordTrace = both_traces t u in
    let mine = Each-at (IsAtMost n) traces id t h at in let theirs = Each-at (IsAtMost n) traces other u h at' in
    Each-set (IsAtMost n) (set traces id b) other no_trace (Each-set (IsAtMost n) traces id b h (greatest-append_le t.start u.start n mine.0 theirs.0, greatest-append_le t.made u.made n mine.1 theirs.1)) (omega arith, omega arith)

IsTraced-joined : (leaves finds : ℕ → Step → ℕ) (n : ℕ) (traces : List WordTrace) (id other : ℕ) (t u : WordTrace) → get_elem? traces id ≡ some t → other ≢ id → get_elem? traces other ≡ some u
    → IsTraced leaves finds n traces → IsTraced leaves finds n (set (set traces id (both_traces t u)) other no_trace)
IsTraced-joined leaves finds n traces id other t u at apart at' h =
    let b : WordTrace = both_traces t u in
    record {
      below = below-joined n traces id other t u at apart at' h.below;
      left = rw (total-both (leaves n) traces id other t u at apart at') h.left;
      found = λ x pos some.
          let s : total (finds x) (t.start ++ u.start) ≡ total (finds x) t.start + total (finds x) u.start = total-append (finds x) t.start u.start in
          let m : total (finds x) (t.made ++ u.made) ≡ total (finds x) t.made + total (finds x) u.made = total-append (finds x) t.made u.made in
          let a : total (known_in (finds x)) (set (set traces id b) other no_trace) ≡ total (known_in (finds x)) traces = total-joined (known_in (finds x)) traces id other t u b no_trace at apart at' (omega arith) refl in
          rw (total-both (leaves x) traces id other t u at apart at') (h.found x pos (omega arith));
    }

IsValue-joined : (n : ℕ) (traces : List WordTrace) (id other : ℕ) (t u : WordTrace) → get_elem? traces id ≡ some t → other ≢ id → get_elem? traces other ≡ some u
    → total wins_in traces ≤ 1 → IsValue n traces → IsValue n (set (set traces id (both_traces t u)) other no_trace)
IsValue-joined n traces id other t u at apart at' few h =
    let b : WordTrace = both_traces t u in
    let mine = Each-at AddsAsDriver traces id t h.driven at in let theirs = Each-at AddsAsDriver traces other u h.driven at' in
    let wins : total is_win t.claim + total is_win u.claim ≤ total wins_in traces = total_two wins_in traces id other t u at apart at' in
    record {
      traced = IsTraced-joined is_add_to is_load_of n traces id other t u at apart at' h.traced;
      summed = h.summed ∙ sym (total-both amount_of traces id other t u at apart at');
      running = Each-set HasSums (set traces id b) other no_trace (Each-set HasSums traces id b h.running
          (HasRunningSums-both t.made u.made (Each-at HasSums traces id t h.running at) (Each-at HasSums traces other u h.running at')
          (dite (ℕ_discrete (total is_win t.claim) 0) (λ e. inl (mine e)) (λ some. inr (theirs (omega arith)))))) tt;
      driven = Each-set AddsAsDriver (set traces id b) other no_trace (Each-set AddsAsDriver traces id b h.driven
          (λ idle. let c : total is_win (t.claim ++ u.claim) ≡ total is_win t.claim + total is_win u.claim = total-append is_win t.claim u.claim in
          let m : total is_add (t.made ++ u.made) ≡ total is_add t.made + total is_add u.made = total-append is_add t.made u.made in
          let x = mine (omega arith) in let y = theirs (omega arith) in omega arith)) (λ _. refl);
    }

IsSetOnce-joined : (n : ℕ) (traces : List WordTrace) (id other : ℕ) (t u : WordTrace) → get_elem? traces id ≡ some t → other ≢ id → get_elem? traces other ≡ some u → IsSetOnce n traces → IsSetOnce n (set (set traces id (both_traces t u)) other no_trace)
IsSetOnce-joined n traces id other t u at apart at' h =
    let b : WordTrace = both_traces t u in
    let s : total is_test (t.start ++ u.start) ≡ total is_test t.start + total is_test u.start = total-append is_test t.start u.start in
    let m : total is_test (t.made ++ u.made) ≡ total is_test t.made + total is_test u.made = total-append is_test t.made u.made in
    let a : total (known_in is_test) (set (set traces id b) other no_trace) ≡ total (known_in is_test) traces = total-joined (known_in is_test) traces id other t u b no_trace at apart at' (omega arith) refl in
    record {
      below = below-joined n traces id other t u at apart at' h.below;
      won = h.won ∙ sym (total-both is_win traces id other t u at apart at');
      tested = λ some. h.tested (omega arith);
    }

IsEntry-joined : (n : ℕ) (traces : List WordTrace) (id other : ℕ) (t u : WordTrace) → get_elem? traces id ≡ some t → other ≢ id → get_elem? traces other ≡ some u → IsEntry n traces → IsEntry n (set (set traces id (both_traces t u)) other no_trace)
IsEntry-joined n traces id other t u at apart at' h =
    let b : WordTrace = both_traces t u in
    let mine = Each-at (RaisesNoMore n) traces id t h.raises at in let theirs = Each-at (RaisesNoMore n) traces other u h.raises at' in
    record {
      traced = IsTraced-joined is_raise_to is_sight_of n traces id other t u at apart at' h.traced;
      raises = Each-set (RaisesNoMore n) (set traces id b) other no_trace (Each-set (RaisesNoMore n) traces id b h.raises (raised-append_le t.made u.made n mine theirs)) (omega arith);
    }

IsMark-joined : (value n : ℕ) (traces : List WordTrace) (id other : ℕ) (t u : WordTrace) → get_elem? traces id ≡ some t → other ≢ id → get_elem? traces other ≡ some u → IsMark value n traces → IsMark value n (set (set traces id (both_traces t u)) other no_trace)
IsMark-joined value n traces id other t u at apart at' h =
    let b : WordTrace = both_traces t u in
    let mine = Each-at (KnowsZeroOr n) traces id t h.known at in let theirs = Each-at (KnowsZeroOr n) traces other u h.known at' in
    let own = Each-at ShutsAsDriver traces id t h.driven at in let others = Each-at ShutsAsDriver traces other u h.driven at' in
    record {
      known = Each-set (KnowsZeroOr n) (set traces id b) other no_trace (Each-set (KnowsZeroOr n) traces id b h.known (IsZeroOr-append n t.start u.start mine.0 theirs.0, IsZeroOr-append n t.made u.made mine.1 theirs.1)) (tt, tt);
      once = rw (total-both is_shut traces id other t u at apart at') h.once;
      left = h.left ∙ sym (total-both shut_to traces id other t u at apart at');
      ended = rw (total-both is_shut traces id other t u at apart at') h.ended;
      driven = Each-set ShutsAsDriver (set traces id b) other no_trace (Each-set ShutsAsDriver traces id b h.driven
          (λ idle. let c : total is_win (t.claim ++ u.claim) ≡ total is_win t.claim + total is_win u.claim = total-append is_win t.claim u.claim in
          let m : total is_shut (t.made ++ u.made) ≡ total is_shut t.made + total is_shut u.made = total-append is_shut t.made u.made in
          let a = own (omega arith) in let d = others (omega arith) in omega arith)) (λ _. refl);
    }

claimed_trace-joined : (k claim : ℕ) (views : List View) (id other : ℕ) (v w : View)
    → map (claimed_trace k claim) (set (set views id (joined_view v w)) other joined_from) ≡ set (set (map (claimed_trace k claim) views) id (both_traces (claimed_trace k claim v) (claimed_trace k claim w))) other no_trace
claimed_trace-joined k claim views id other v w =
    let b : View = joined_view v w in
    map-set (claimed_trace k claim) (set views id b) other joined_from ∙ ap (λ (ts : List WordTrace). set ts other no_trace) (map-set (claimed_trace k claim) views id b)
    ∙ (λ i. set (set (map (claimed_trace k claim) views) id record { start = on-append k v.start w.start i; made = on-append k v.trace w.trace i; claim = on-append claim v.trace w.trace i }) other no_trace)

word_trace-joined : (k : ℕ) (views : List View) (id other : ℕ) (v w : View)
    → map (word_trace k) (set (set views id (joined_view v w)) other joined_from) ≡ set (set (map (word_trace k) views) id (both_traces (word_trace k v) (word_trace k w))) other no_trace
word_trace-joined k views id other v w =
    let b : View = joined_view v w in
    map-set (word_trace k) (set views id b) other joined_from ∙ ap (λ (ts : List WordTrace). set ts other no_trace) (map-set (word_trace k) views id b)
    ∙ (λ i. set (set (map (word_trace k) views) id record { start = on-append k v.start w.start i; made = on-append k v.trace w.trace i; claim = [] }) other no_trace)

-- at most one view has won a claim, once
pub few_wins : (z : Sizes) (words : List ℕ) (views : List View) (k claim : ℕ) → IsKept z words views → total wins_in (map (claimed_trace k claim) views) ≤ 1
few_wins z words views k claim h =
    let few = h.won_once claim in
    let a : total wins_in (map (claimed_trace k claim) views) ≡ total (λ (v : View). total is_win (on claim v.trace)) views = total-map wins_in (claimed_trace k claim) views in
    omega arith

pub join-allowed : (z : Sizes) (id other : ℕ) (v w : View) → 0 < v.parts → Joins {S = Unit {0}} (λ s. IsKept z s.words s.views) id v other w (joined_view v w) joined_from
join-allowed z id other v w live s h at apart there =
    let b : View = joined_view v w in let views : List View = s.views in
    let at' : get_elem? views other ≡ some w = sym (set_else views id other b apart) ∙ there in
    record {
      counted = h.counted;
      parts = total-joined parts_of views id other v w b joined_from at apart at' refl refl ∙ h.parts;
      spent = Each-set IsEmptyIfSpent (set views id b) other joined_from (Each-set IsEmptyIfSpent views id b h.spent (λ bad. absurd (omega arith))) (λ _. (refl, refl));
      sized = let mine = Each-at (KnowsSizes z) views id v h.sized at live in Each-set (KnowsSizes z) (set views id b) other joined_from (Each-set (KnowsSizes z) views id b h.sized (λ _. mine)) (λ bad. absurd (omega arith));
      won_once = λ k. let few = h.won_once k in
          let a : total (wins_on k) (set (set views id b) other joined_from) ≡ total (wins_on k) views = total-joined (wins_on k) views id other v w b joined_from at apart at'
          (ap (total is_win) (on-append k v.trace w.trace) ∙ total-append is_win (on k v.trace) (on k w.trace)) refl in omega arith;
      values = λ c low. same_word IsValue _ _ _ _ refl (claimed_trace-joined (value_place c) (claim_place c) views id other v w)
          (IsValue-joined (slice_index s.words (value_place c)) (map (context_trace c) views) id other (context_trace c v) (context_trace c w) (at_map (context_trace c) views id v at) apart (at_map (context_trace c) views other w at') (few_wins z s.words views (value_place c) (claim_place c) h) (h.values c low));
      marks = λ c low. same_word (IsMark (slice_index s.words (value_place c))) _ _ _ _ refl (claimed_trace-joined (mark_place c) (claim_place c) views id other v w)
          (IsMark-joined (slice_index s.words (value_place c)) (slice_index s.words (mark_place c)) (map (mark_trace c) views) id other (mark_trace c v) (mark_trace c w) (at_map (mark_trace c) views id v at) apart (at_map (mark_trace c) views other w at') (h.marks c low));
      set_once = λ k is. same_word IsSetOnce _ _ _ _ refl (word_trace-joined k views id other v w)
          (IsSetOnce-joined (slice_index s.words k) (map (word_trace k) views) id other (word_trace k v) (word_trace k w) (at_map (word_trace k) views id v at) apart (at_map (word_trace k) views other w at') (h.set_once k is));
      entries = λ k is. same_word IsEntry _ _ _ _ refl (word_trace-joined k views id other v w)
          (IsEntry-joined (slice_index s.words k) (map (word_trace k) views) id other (word_trace k v) (word_trace k w) (at_map (word_trace k) views id v at) apart (at_map (word_trace k) views other w at') (h.entries k is));
      unused = h.unused;
    }

-- a load that enters nothing, and sees that the parts are no more than all
pub counts_parts-allowed : (z : Sizes) (slots id : ℕ) (me : Holder) → Allows (λ s. IsKept z s.words s.views) slots id me 0 (λ n. n) (counts_parts (step slots 0 0 0 none) me)
counts_parts-allowed z slots id me s h homes at small =
    let le : me.0.parts ≤ total parts_of s.views = total_at parts_of s.views id me.0 at in let all = h.parts in (
      me.0,
      keeps,
      tt,
      (let P : List ℕ × List View → Type 0 = λ u. IsKept z u.0 u.1 in subst P (λ i. (sym (set-get_or s.words 0 0) i, sym (set_again s.views id me.0 at) i)) h),
      (refl, omega arith, λ w. let mine : wins_on w me.0 ≤ total (wins_on w) s.views = total_at (wins_on w) s.views id me.0 at in let few = h.won_once w in omega arith),
    )
