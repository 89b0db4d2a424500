-- A raise and a look keep the rule.
use Rattle.std.proofs.Common.{ℕ, ◌<◌, max, List, map, slice_index, refl}
use mathlib.Core.Option.{none}
use Rattle.atomic_table.specs.Table.{step, Allows, keeps}
use Rattle.atomic_table.proofs.Lists.{at_map}
use Rattle.words_core.specs.declared.trace.View.{View}
use Rattle.words_core.specs.declared.words.Sizes.{Sizes}
use Rattle.words_core.specs.theorem.Layout.{IsBoardWord}
use Rattle.words_core.specs.theorem.Trace.{raise, shown}
use Rattle.words_core.specs.Rule.{WordTrace, word_trace, IsAtMost, RaisesNoMore, IsKept}
use Rattle.words_core.specs.Plays.{Holder, view_with, loads_entry, raises_entry}
use Rattle.words_core.proofs.Totals.{Each-at}
use Rattle.words_core.proofs.EntrySteps.{IsEntry-shown, IsEntry-raised}
use Rattle.words_core.proofs.Frames.{IsKept-entry}
use Rattle.words_core.proofs.Loading.{seen_by_le}

pub loads_entry-allowed : (z : Sizes) (slots id k : ℕ) (me : Holder) → IsBoardWord z k → 0 < me.0.parts → Allows (λ s. IsKept z s.words s.views) slots id me k (λ n. n) (loads_entry (step slots k 0 0 none) me)
loads_entry-allowed z slots id k me is live s h homes at small =
    let v : View = me.0 in let n : ℕ = slice_index s.words k in let traces : List WordTrace = map (word_trace k) s.views in
    let fits = h.entries k is in let there = at_map (word_trace k) s.views id v at in
    let mine = Each-at (IsAtMost n) traces id (word_trace k v) fits.traced.below there in
    let high = Each-at (RaisesNoMore n) traces id (word_trace k v) fits.raises there in
    (view_with v (shown k n), keeps, tt, IsKept-entry z s.words s.views id k n v (shown k n) is live at refl refl h (IsEntry-shown k n traces id (word_trace k v) there fits), (refl, seen_by_le k n v mine.0 mine.1, high))

pub raises_entry-allowed : (z : Sizes) (slots id k p : ℕ) (me : Holder) → IsBoardWord z k → 0 < me.0.parts → Allows (λ s. IsKept z s.words s.views) slots id me k (λ n. max n p) (raises_entry (step slots k p 0 none) me)
raises_entry-allowed z slots id k p me is live s h homes at small =
    let v : View = me.0 in let n : ℕ = slice_index s.words k in let m : ℕ = max n p in let traces : List WordTrace = map (word_trace k) s.views in
    let fits = h.entries k is in let there = at_map (word_trace k) s.views id v at in
    let mine = Each-at (IsAtMost n) traces id (word_trace k v) fits.traced.below there in
    let high = Each-at (RaisesNoMore n) traces id (word_trace k v) fits.raises there in
    (view_with v (raise k p m), keeps, tt, IsKept-entry z s.words s.views id k m v (raise k p m) is live at refl refl h (IsEntry-raised k n p traces id (word_trace k v) there fits), (refl, seen_by_le k n v mine.0 mine.1, high))
