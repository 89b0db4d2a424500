-- What the rule says of all seats.
use Rattle.std.proofs.Common.{◌≡◌, ℕ, zero, suc, ◌+◌, ◌-◌, ◌<◌, ◌≤◌, List, [], ◌∷◌, map, Some, refl, sym, ap, subst, ◌∙◌, ⊎_elim, arith}
use Rattle.std.specs.Prelude.{slice_get, slice_index}
use Rattle.std.proofs.lemmas.Option.{none-some, same_Some}
use mathlib.Core.Logic.{dite}
use mathlib.Core.Option.{some}
use native.Mathlib.Decide.{ℕ_discrete}
use lib.ListN.{get_elem?}
use Rattle.atomic_table.proofs.Lists.{at_map}
use Rattle.words_core.specs.declared.trace.View.{View}
use Rattle.words_core.specs.declared.words.Sizes.{Sizes}
use Rattle.words_core.specs.theorem.Layout.{value_place, claim_place, mark_place, claim_word, mark_word, IsBoardWord}
use Rattle.words_core.specs.theorem.Trace.{on, total, is_shut, is_raise_to, raised, added, wins_of, shuts_of}
use Rattle.words_core.specs.theorem.Views.{HasOneWinner, IsDrivenBy, HasNotDriven, IsGreatestRaise}
use Rattle.words_core.specs.Rule.{WordTrace, context_trace, mark_trace, word_trace, made_in, wins_in, wins_on, AddsAsDriver, ShutsAsDriver, RaisesNoMore, IsKept}
use Rattle.words_core.proofs.Totals.{total_at, total_two, total_alone, total-map, Each-at, Each-weaker}
use Rattle.words_core.proofs.Traces.{added_none, raised_le}
use Rattle.words_core.proofs.MarkSteps.{marks_none}
use Rattle.words_core.proofs.ValueSteps.{none_or_some}

at_of : {A : Type 0} (xs : List A) (i : ℕ) (x : A) → slice_get xs i ≡ Some x → get_elem? xs i ≡ some x
at_of [] i x e = absurd (none-some x e)
at_of (a ∷ xs) zero x e = ap some (same_Some a x e)
at_of (a ∷ xs) (suc i) x e = at_of xs i x e

few_and_some : (a b : ℕ) → a ≤ 1 → 0 < b → a ≤ b
few_and_some a b few one = omega arith

twice_over : (a b n : ℕ) → a + b ≤ n → n ≤ 1 → 0 < a → 0 < b → ⊥
twice_over a b n all few one other = omega arith

-- a word was won by one seat, and once
pub one_winner : (sizes : Sizes) (words : List ℕ) (views : List View) (w : ℕ) → IsKept sizes words views → HasOneWinner w views
one_winner sizes words views w h =
    let few : total (wins_on w) views ≤ 1 = h.won_once w in record {
      once = λ i v at. let mine : wins_of w v.trace ≤ total (wins_on w) views = total_at (wins_on w) views i v (at_of views i v at) in omega arith;
      no_other = λ i j v other at there won too. dite (ℕ_discrete j i)
          (λ e. sym e)
          (λ apart. absurd (twice_over (wins_of w v.trace) (wins_of w other.trace) (total (wins_on w) views)
          (total_two (wins_on w) views i j v other (at_of views i v at) apart (at_of views j other there)) few won too));
    }

-- the winner of a context's claim has made all its additions and its closing
module _ (sizes : Sizes) (words : List ℕ) (views : List View) (h : IsKept sizes words views) (i : ℕ) (v : View) (at : slice_get views i ≡ Some v) (place : ℕ) (inside : place < sizes.contexts) where
  module _ (won : 0 < wins_of (claim_place place) v.trace) where
    all_wins : total (wins_on (claim_place place)) views ≤ wins_of (claim_place place) v.trace
    all_wins = few_and_some (total (wins_on (claim_place place)) views) (wins_of (claim_place place) v.trace) (h.won_once (claim_place place)) won

    value_of_winner : slice_index words (value_place place) ≡ added (on (value_place place) v.trace)
    value_of_winner =
        let traces : List WordTrace = map (context_trace place) views in
        let value = h.values place inside in
        value.summed
        ∙ total_alone wins_in (λ (t : WordTrace). added t.made) traces i (context_trace place v) (at_map (context_trace place) views i v (at_of views i v at))
        (Each-weaker AddsAsDriver (λ (t : WordTrace). wins_in t ≡ 0 → added t.made ≡ 0) traces (λ t drives idle. added_none t.made (drives idle)) value.driven)
        (subst (λ (n : ℕ). n ≤ wins_of (claim_place place) v.trace) (sym (total-map wins_in (context_trace place) views)) all_wins)

    closings_of_winner : total (made_in is_shut) (map (mark_trace place) views) ≡ shuts_of (mark_place place) v.trace
    closings_of_winner =
        total_alone wins_in (made_in is_shut) (map (mark_trace place) views) i (mark_trace place v) (at_map (mark_trace place) views i v (at_of views i v at))
        (h.marks place inside).driven
        (subst (λ (n : ℕ). n ≤ wins_of (claim_place place) v.trace) (sym (total-map wins_in (mark_trace place) views)) all_wins)

  module _ (none : wins_of (claim_place place) v.trace ≡ 0) where
    adds_nothing : added (on (value_place place) v.trace) ≡ 0
    adds_nothing =
        let drives = Each-at AddsAsDriver (map (context_trace place) views) i (context_trace place v) (h.values place inside).driven (at_map (context_trace place) views i v (at_of views i v at)) in
        added_none (on (value_place place) v.trace) (drives none)

    closes_nothing : shuts_of (mark_place place) v.trace ≡ 0
    closes_nothing =
        let drives = Each-at ShutsAsDriver (map (mark_trace place) views) i (mark_trace place v) (h.marks place inside).driven (at_map (mark_trace place) views i v (at_of views i v at)) in
        drives none

place_inside : (ctx n : ℕ) → 1 ≤ ctx → ctx ≤ n → ctx - 1 < n
place_inside ctx n low high = omega arith

pub driven_by : (sizes : Sizes) (words : List ℕ) (views : List View) (ctx i : ℕ) (v : View) → IsKept sizes words views → 1 ≤ ctx → ctx ≤ sizes.contexts → slice_get views i ≡ Some v → 0 < wins_of (claim_word ctx) v.trace → IsDrivenBy ctx words v
driven_by sizes words views ctx i v h low high at won =
    let inside : ctx - 1 < sizes.contexts = place_inside ctx sizes.contexts low high in
    let mark = h.marks (ctx - 1) inside in
    let closings : total (made_in is_shut) (map (mark_trace (ctx - 1)) views) ≡ shuts_of (mark_word ctx) v.trace = closings_of_winner sizes words views h i v at (ctx - 1) inside won in
    record {
      value = value_of_winner sizes words views h i v at (ctx - 1) inside won;
      once = subst (λ (n : ℕ). n ≤ 1) closings mark.once;
      unset = λ none. mark.left ∙ marks_none (map (mark_trace (ctx - 1)) views) (closings ∙ none);
      set = λ one. mark.ended (subst (λ (n : ℕ). 0 < n) (sym closings) one);
    }

pub not_driven : (sizes : Sizes) (words : List ℕ) (views : List View) (ctx i : ℕ) (v : View) → IsKept sizes words views → 1 ≤ ctx → ctx ≤ sizes.contexts → slice_get views i ≡ Some v → wins_of (claim_word ctx) v.trace ≡ 0 → HasNotDriven ctx v
not_driven sizes words views ctx i v h low high at none =
    let inside : ctx - 1 < sizes.contexts = place_inside ctx sizes.contexts low high in
    (adds_nothing sizes words views h i v at (ctx - 1) inside none, closes_nothing sizes words views h i v at (ctx - 1) inside none)

-- an element with f above 0
some_at : {A : Type 0} (f : A → ℕ) (xs : List A) → 0 < total f xs → (i : ℕ) × ((x : A) × (slice_get xs i ≡ Some x) × (0 < f x))
some_at f [] one = absurd (omega arith)
some_at f (x ∷ xs) one = ⊎_elim
    (λ none. let rest = some_at f xs (omega arith) in (suc rest.0, rest.1))
    (λ here. (zero, (x, refl, here)))
    (none_or_some (f x))

le_both : (a b : ℕ) → a ≤ b → b ≤ a → a ≡ b
le_both a b le ge = omega arith

-- a seat has raised an entry of the board to what is there, if that is above 0
raiser : (w n : ℕ) (views : List View) → 0 < total (made_in (is_raise_to n)) (map (word_trace w) views) → ((i : ℕ) (v : View) → slice_get views i ≡ Some v → raised (on w v.trace) ≤ n)
    → (i : ℕ) × ((v : View) × (slice_get views i ≡ Some v) × (raised (on w v.trace) ≡ n))
raiser w n views to none_higher =
    let one = some_at (λ (v : View). total (is_raise_to n) (on w v.trace)) views (subst (λ (k : ℕ). 0 < k) (total-map (made_in (is_raise_to n)) (word_trace w) views) to) in
    let v : View = one.1.0 in
    (one.0, (v, one.1.1, le_both (raised (on w v.trace)) n (none_higher one.0 v one.1.1) (raised_le n (on w v.trace) one.1.2)))

pub greatest_raise : (sizes : Sizes) (words : List ℕ) (views : List View) (w : ℕ) → IsKept sizes words views → IsBoardWord sizes w → IsGreatestRaise w (slice_index words w) views
greatest_raise sizes words views w h is =
    let n : ℕ = slice_index words w in
    let entry = h.entries w is in
    let none_higher : (i : ℕ) (v : View) → slice_get views i ≡ Some v → raised (on w v.trace) ≤ n =
    λ i v at. Each-at (RaisesNoMore n) (map (word_trace w) views) i (word_trace w v) entry.raises (at_map (word_trace w) views i v (at_of views i v at)) in
    record {
      none_higher = none_higher;
      by_a_seat = λ one. raiser w n views (⊎_elim (λ zero_there. absurd (omega arith)) (λ left. left) entry.traced.left) none_higher;
    }
