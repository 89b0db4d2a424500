-- The driver's addition keeps the rule.
use Rattle.std.proofs.Common.{◌≡◌, ℕ, ◌+◌, ◌%◌, ◌^◌, ◌<◌, List, map, set, slice_index, sym, refl, ◌∙◌, subst, arith}
use mathlib.Core.Option.{some, none}
use lib.ListN.{get_elem?}
use Rattle.atomic_table.specs.Table.{step, Allows, keeps}
use Rattle.atomic_table.proofs.Lists.{at_map}
use Rattle.words_core.specs.declared.trace.View.{View}
use Rattle.words_core.specs.declared.words.Sizes.{Sizes}
use Rattle.words_core.specs.theorem.Layout.{value_place, claim_place, mark_place}
use Rattle.words_core.specs.theorem.Trace.{on, total, added, is_win, is_shut, add, wins_of, shuts_of}
use Rattle.words_core.specs.Rule.{WordTrace, context_trace, mark_trace, made_in, wins_in, AddsAsDriver, IsKept}
use Rattle.words_core.specs.Plays.{Holder, view_with, adds_to_value}
use Rattle.words_core.proofs.Totals.{Each-weaker, total_alone}
use Rattle.words_core.proofs.Traces.{added_none}
use Rattle.words_core.proofs.ValueSteps.{IsValue-added}
use Rattle.words_core.proofs.MarkSteps.{IsMark-valued}
use Rattle.words_core.proofs.Frames.{IsKept-value}
use Rattle.words_core.proofs.Joining.{few_wins}

-- the sum of a context was added by its driver
pub value_is_driven : (z : Sizes) (words : List ℕ) (views : List View) (id c : ℕ) (v : View) → c < z.contexts → get_elem? views id ≡ some v → IsKept z words views → 0 < wins_of (claim_place c) v.trace
    → slice_index words (value_place c) ≡ added (on (value_place c) v.trace)
value_is_driven z words views id c v low at h won =
    let traces : List WordTrace = map (context_trace c) views in let fits = h.values c low in let few = few_wins z words views (value_place c) (claim_place c) h in
    fits.summed ∙ total_alone wins_in (λ (t : WordTrace). added t.made) traces id (context_trace c v) (at_map (context_trace c) views id v at)
    (Each-weaker AddsAsDriver (λ (t : WordTrace). total is_win t.claim ≡ 0 → added t.made ≡ 0) traces (λ t own idle. added_none t.made (own idle)) fits.driven)
    (omega arith)

-- a context is closed by its driver
pub shuts_are_driven : (z : Sizes) (words : List ℕ) (views : List View) (id c : ℕ) (v : View) → c < z.contexts → get_elem? views id ≡ some v → IsKept z words views → 0 < wins_of (claim_place c) v.trace
    → total (made_in is_shut) (map (mark_trace c) views) ≡ shuts_of (mark_place c) v.trace
shuts_are_driven z words views id c v low at h won =
    let traces : List WordTrace = map (mark_trace c) views in let few = few_wins z words views (mark_place c) (claim_place c) h in
    total_alone wins_in (made_in is_shut) traces id (mark_trace c v) (at_map (mark_trace c) views id v at) (h.marks c low).driven (omega arith)

pub adds_to_value-allowed : (z : Sizes) (slots id c k : ℕ) (me : Holder) → c < z.contexts → 0 < me.0.parts → 0 < wins_of (claim_place c) me.0.trace → shuts_of (mark_place c) me.0.trace ≡ 0 → added (on (value_place c) me.0.trace) + k < 2 ^ 64
    → Allows (λ s. IsKept z s.words s.views) slots id me (value_place c) (λ n. (n + k) % 2 ^ 64) (adds_to_value (step slots (value_place c) k 0 none) me)
adds_to_value-allowed z slots id c k me low live won unshut fits s h homes at small =
    let v : View = me.0 in let w : ℕ = value_place c in let n : ℕ = slice_index s.words w in let views : List View = s.views in
    let own : n ≡ added (on w v.trace) = value_is_driven z s.words views id c v low at h won in
    let exact : (n + k) % 2 ^ 64 ≡ n + k = omega arith in (
      view_with v (add w k (n + k)),
      keeps,
      tt,
      subst (λ (m : ℕ). IsKept z (set s.words w m) (set views id (view_with v (add w k (n + k))))) (sym exact)
          (IsKept-value z s.words views id c (n + k) v (add w k (n + k)) low live at refl refl h (IsValue-added w n k (map (context_trace c) views) id (context_trace c v) (at_map (context_trace c) views id v at) (h.values c low) won own)
          (IsMark-valued n (n + k) (slice_index s.words (mark_place c)) (map (mark_trace c) views) (shuts_are_driven z s.words views id c v low at h won ∙ unshut) (h.marks c low))),
      (refl, own),
    )
