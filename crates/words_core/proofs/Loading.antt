-- A load keeps the rule.
use Rattle.std.proofs.Common.{◌≡◌, ℕ, ◌+◌, ◌-◌, ◌<◌, ◌≤◌, ◌⊎◌, ⊎_elim, List, ◌++◌, map, slice_index, sym, refl, subst, arith}
use mathlib.Core.Option.{some, none}
use lib.ListN.{get_elem?}
use Rattle.atomic_table.specs.Table.{step, Allows, keeps}
use Rattle.atomic_table.proofs.Lists.{at_map}
use Rattle.words_core.specs.declared.trace.Step.{Step}
use Rattle.words_core.specs.declared.trace.View.{View}
use Rattle.words_core.specs.declared.words.Sizes.{Sizes}
use Rattle.words_core.specs.declared.words.TheConstants.{MARK}
use Rattle.words_core.specs.theorem.Layout.{value_place, mark_place}
use Rattle.words_core.specs.theorem.Trace.{load, on, total, greatest, is_shut}
use Rattle.words_core.specs.Rule.{WordTrace, context_trace, mark_trace, made_in, IsAtMost, KnowsZeroOr, IsKept}
use Rattle.words_core.specs.Plays.{Holder, view_with, seen_by, loads_value, loads_mark}
use Rattle.words_core.proofs.Totals.{Each-at}
use Rattle.words_core.proofs.Traces.{on-append, greatest-append_le}
use Rattle.words_core.proofs.ValueSteps.{IsValue-loaded, none_or_some}
use Rattle.words_core.proofs.MarkSteps.{IsMark-loaded, IsZeroOr-append, greatest_zero_or, marks_none}
use Rattle.words_core.proofs.Frames.{IsKept-value, IsKept-mark}

pub seen_by_le : (w n : ℕ) (v : View) → greatest (on w v.start) ≤ n → greatest (on w v.trace) ≤ n → seen_by w v ≤ n
seen_by_le w n v a b = subst (λ (steps : List Step). greatest steps ≤ n) (sym (on-append w v.start v.trace)) (greatest-append_le (on w v.start) (on w v.trace) n a b)

-- a known value of a mark is 0 or the mark
pub mark_known : (z : Sizes) (words : List ℕ) (views : List View) (id c : ℕ) (v : View) → c < z.contexts → get_elem? views id ≡ some v → IsKept z words views
    → (seen_by (mark_place c) v ≡ 0) ⊎ (seen_by (mark_place c) v ≡ slice_index words (mark_place c))
mark_known z words views id c v low at h =
    let w : ℕ = mark_place c in let n : ℕ = slice_index words w in
    let mine = Each-at (KnowsZeroOr n) (map (mark_trace c) views) id (mark_trace c v) (h.marks c low).known (at_map (mark_trace c) views id v at) in
    subst (λ (steps : List Step). (greatest steps ≡ 0) ⊎ (greatest steps ≡ n)) (sym (on-append w v.start v.trace))
    (greatest_zero_or n (on w v.start ++ on w v.trace) (IsZeroOr-append n (on w v.start) (on w v.trace) mine.0 mine.1))

-- a mark that is not 0 is the value and 1
pub mark_is_last : (z : Sizes) (words : List ℕ) (views : List View) (c : ℕ) → c < z.contexts → IsKept z words views → 0 < slice_index words (mark_place c)
    → slice_index words (mark_place c) ≡ slice_index words (value_place c) + 1
mark_is_last z words views c low h set =
    let traces : List WordTrace = map (mark_trace c) views in
    let fits = h.marks c low in let left = fits.left in
    ⊎_elim (λ none. let no = marks_none traces none in absurd (omega arith)) (λ some. fits.ended some) (none_or_some (total (made_in is_shut) traces))

pub loads_value-allowed : (z : Sizes) (slots id c : ℕ) (me : Holder) → c < z.contexts → 0 < me.0.parts → Allows (λ s. IsKept z s.words s.views) slots id me (value_place c) (λ n. n) (loads_value (step slots (value_place c) 0 0 none) me)
loads_value-allowed z slots id c me low live s h homes at small =
    let v : View = me.0 in let w : ℕ = value_place c in let n : ℕ = slice_index s.words w in let traces : List WordTrace = map (context_trace c) s.views in
    let fits = h.values c low in
    let there = at_map (context_trace c) s.views id v at in
    let mine = Each-at (IsAtMost n) traces id (context_trace c v) fits.traced.below there in
    let mark : ℕ = slice_index s.words (mark_place c) in (
      view_with v (load w n),
      keeps,
      tt,
      IsKept-value z s.words s.views id c n v (load w n) low live at refl refl h (IsValue-loaded w n traces id (context_trace c v) there fits) (h.marks c low),
      (
        refl,
        seen_by_le w n v mine.0 mine.1,
        λ some. let seen : seen_by (mark_place c) v ≡ mark = ⊎_elim (λ none. absurd (omega arith)) (λ is. is) (mark_known z s.words s.views id c v low at h) in
            let last = mark_is_last z s.words s.views c low h (omega arith) in omega arith,
      ),
    )

pub loads_mark-allowed : (z : Sizes) (slots id c : ℕ) (me : Holder) → c < z.contexts → 0 < me.0.parts → Allows (λ s. IsKept z s.words s.views) slots id me (mark_place c) (λ n. n) (loads_mark (step slots (mark_place c) 0 0 none) me)
loads_mark-allowed z slots id c me low live s h homes at small =
    let v : View = me.0 in let w : ℕ = mark_place c in let n : ℕ = slice_index s.words w in
    let value : ℕ = slice_index s.words (value_place c) in
    let known = mark_known z s.words s.views id c v low at h in
    let mine = Each-at (IsAtMost value) (map (context_trace c) s.views) id (context_trace c v) (h.values c low).traced.below (at_map (context_trace c) s.views id v at) in
    let back : w - MARK ≡ value_place c = omega arith in (
      view_with v (load w n),
      keeps,
      tt,
      IsKept-mark z s.words s.views id c n v (load w n) low live at refl refl h (IsMark-loaded w value n (map (mark_trace c) s.views) id (mark_trace c v) (at_map (mark_trace c) s.views id v at) (h.marks c low)),
      (
        refl,
        ⊎_elim (λ none. omega arith) (λ is. omega arith) known,
        λ some. ⊎_elim (λ none. absurd (omega arith)) (λ is. sym is) known,
        λ some. subst (λ (k : ℕ). seen_by k v < n) (sym back) (let last = mark_is_last z s.words s.views c low h some in let le = seen_by_le (value_place c) value v mine.0 mine.1 in omega arith),
      ),
    )
