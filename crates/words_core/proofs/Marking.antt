-- The driver's closing keeps the rule.
use Rattle.std.proofs.Common.{◌≡◌, ℕ, ◌+◌, ◌<◌, List, map, set, slice_index, bit_or, ⊎_elim, sym, refl, ap, ◌∙◌, subst, arith}
use lib.Bits.{or_zero_l}
use mathlib.Core.Option.{none}
use Rattle.atomic_table.specs.Table.{step, Allows, keeps}
use Rattle.atomic_table.proofs.Lists.{at_map}
use Rattle.words_core.specs.declared.trace.View.{View}
use Rattle.words_core.specs.declared.words.Sizes.{Sizes}
use Rattle.words_core.specs.theorem.Layout.{value_place, claim_place, mark_place}
use Rattle.words_core.specs.theorem.Trace.{on, added, shut, wins_of, shuts_of}
use Rattle.words_core.specs.Rule.{WordTrace, mark_trace, IsMark, IsKept}
use Rattle.words_core.specs.Plays.{Holder, view_with, shuts_mark}
use Rattle.words_core.proofs.ValueSteps.{grown}
use Rattle.words_core.proofs.MarkSteps.{IsMark-shut, marks_none}
use Rattle.words_core.proofs.Frames.{IsKept-mark}
use Rattle.words_core.proofs.Loading.{mark_known}
use Rattle.words_core.proofs.Adding.{value_is_driven, shuts_are_driven}

pub shuts_mark-allowed : (z : Sizes) (slots id c k : ℕ) (me : Holder) → c < z.contexts → 0 < me.0.parts → 0 < wins_of (claim_place c) me.0.trace → shuts_of (mark_place c) me.0.trace ≡ 0 → k ≡ added (on (value_place c) me.0.trace) + 1
    → Allows (λ s. IsKept z s.words s.views) slots id me (mark_place c) (λ n. bit_or n k) (shuts_mark (step slots (mark_place c) k 0 none) me)
shuts_mark-allowed z slots id c k me low live won unshut last s h homes at small =
    let v : View = me.0 in let w : ℕ = mark_place c in let n : ℕ = slice_index s.words w in let views : List View = s.views in
    let value : ℕ = slice_index s.words (value_place c) in
    let traces : List WordTrace = map (mark_trace c) views in
    let none = shuts_are_driven z s.words views id c v low at h won ∙ unshut in
    let zero : n ≡ 0 = (h.marks c low).left ∙ marks_none traces none in
    let own : value ≡ added (on (value_place c) v.trace) = value_is_driven z s.words views id c v low at h won in
    let is : value + 1 ≡ k = omega arith in
    let left : bit_or n k ≡ k = ap (λ (m : ℕ). bit_or m k) zero ∙ or_zero_l k in
    let marked = IsMark-shut w value traces id (mark_trace c v) (at_map (mark_trace c) views id v at) (subst (λ (m : ℕ). IsMark value m traces) zero (h.marks c low)) won none in (
      view_with v (shut w k),
      keeps,
      tt,
      subst (λ (m : ℕ). IsKept z (set s.words w m) (set views id (view_with v (shut w k)))) (sym left)
          (IsKept-mark z s.words views id c k v (shut w k) low live at refl refl h
          (subst (λ (m : ℕ). IsMark value m (set traces id (grown (mark_trace c v) (shut w m)))) is marked)),
      (refl, zero, ⊎_elim (λ unseen. unseen) (λ seen. seen ∙ zero) (mark_known z s.words views id c v low at h)),
    )
