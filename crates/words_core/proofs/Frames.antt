-- A step on one word keeps the rule for all other words.
use Rattle.std.proofs.Common.{◌≡◌, ◌≢◌, ℕ, ◌+◌, ◌<◌, ◌≤◌, List, [], ◌∷◌, map, length, set, get_or, sym, refl, ap, ◌∙◌, subst, arith}
use mathlib.Core.Option.{some}
use mathlib.Core.Logic.{dite}
use native.Mathlib.Decide.{ℕ_discrete}
use lib.ListN.{get_elem?}
use Rattle.std.proofs.lemmas.List.{map-set, length-set, get_or-set_same, get_or-set_other}
use Rattle.atomic_table.proofs.Lists.{at_map}
use Rattle.words_core.specs.declared.trace.Step.{Step}
use Rattle.words_core.specs.declared.trace.View.{View}
use Rattle.words_core.specs.declared.words.Sizes.{Sizes}
use Rattle.words_core.specs.theorem.Layout.{value_place, claim_place, mark_place, word_count, IsClaimOrFlag, IsBoardWord, IsUnused}
use Rattle.words_core.specs.theorem.Trace.{on, total, is_win}
use Rattle.words_core.specs.Rule.{Each, WordTrace, claimed_trace, context_trace, mark_trace, word_trace, wins_on, parts_of, IsEmptyIfSpent, KnowsSizes, IsValue, IsMark, IsSetOnce, IsEntry, IsKept}
use Rattle.words_core.specs.Plays.{view_with}
use Rattle.words_core.proofs.Totals.{total-set, total-append, Each-set, Each-at, map-set_same}
use Rattle.words_core.proofs.Traces.{on-append_here, on-append_other}
use Rattle.words_core.proofs.ValueSteps.{grown, claimed, IsValue-claimed}
use Rattle.words_core.proofs.MarkSteps.{IsMark-claimed}
use Rattle.words_core.proofs.WordKinds.{IsClaimOrFlag-not_value, IsClaimOrFlag-not_mark, IsBoardWord-not_value, IsBoardWord-not_mark, IsBoardWord-not_flag, IsBoardWord-inside, IsUnused-not_value, IsUnused-not_mark, IsUnused-not_set_once, IsUnused-not_entry, lines_of}

-- the traces of a word and a claim, after a step on the word, on the claim, or on neither

traces_here : (j claim : ℕ) (views : List View) (id : ℕ) (v : View) (s : Step) → claim ≢ j → s.word ≡ j
    → map (claimed_trace j claim) (set views id (view_with v s)) ≡ set (map (claimed_trace j claim) views) id (grown (claimed_trace j claim v) s)
traces_here j claim views id v s apart e =
    map-set (claimed_trace j claim) views id (view_with v s)
    ∙ (λ i. set (map (claimed_trace j claim) views) id record { start = on j v.start; made = on-append_here j v.trace s e i; claim = on-append_other claim v.trace s (λ bad. apart (sym bad ∙ e)) i })

traces_claimed : (j claim : ℕ) (views : List View) (id : ℕ) (v : View) (s : Step) → claim ≢ j → s.word ≡ claim
    → map (claimed_trace j claim) (set views id (view_with v s)) ≡ set (map (claimed_trace j claim) views) id (claimed (claimed_trace j claim v) s)
traces_claimed j claim views id v s apart e =
    map-set (claimed_trace j claim) views id (view_with v s)
    ∙ (λ i. set (map (claimed_trace j claim) views) id record { start = on j v.start; made = on-append_other j v.trace s (λ bad. apart (sym e ∙ bad)) i; claim = on-append_here claim v.trace s e i })

traces_other : (j claim : ℕ) (views : List View) (id : ℕ) (v : View) (s : Step) → get_elem? views id ≡ some v → s.word ≢ j → s.word ≢ claim
    → map (claimed_trace j claim) (set views id (view_with v s)) ≡ map (claimed_trace j claim) views
traces_other j claim views id v s at m n = map-set_same (claimed_trace j claim) views id v (view_with v s) at
    (λ i. record { start = on j v.start; made = on-append_other j v.trace s m i; claim = on-append_other claim v.trace s n i })

-- one word, after a step
word_trace-here : (k : ℕ) (v : View) (s : Step) → s.word ≡ k → word_trace k (view_with v s) ≡ grown (word_trace k v) s
word_trace-here k v s e = λ i. record { start = on k v.start; made = on-append_here k v.trace s e i; claim = [] }

word_trace-other : (k : ℕ) (v : View) (s : Step) → s.word ≢ k → word_trace k (view_with v s) ≡ word_trace k v
word_trace-other k v s ne = λ i. record { start = on k v.start; made = on-append_other k v.trace s ne i; claim = [] }

pub same_word : (P : ℕ → List WordTrace → Type 0) (m n : ℕ) (xs ys : List WordTrace) → m ≡ n → xs ≡ ys → P n ys → P m xs
same_word P m n xs ys e f h = let Q : ℕ × List WordTrace → Type 0 = λ u. P u.0 u.1 in subst Q (λ i. (sym e i, sym f i)) h

parts-view_with : (views : List View) (id : ℕ) (v : View) (s : Step) → get_elem? views id ≡ some v → total parts_of (set views id (view_with v s)) ≡ total parts_of views
parts-view_with views id v s at = let a : total parts_of (set views id (view_with v s)) + v.parts ≡ total parts_of views + v.parts = total-set parts_of views id v (view_with v s) at in omega arith

spent-view_with : (views : List View) (id : ℕ) (v : View) (s : Step) → 0 < v.parts → Each IsEmptyIfSpent views → Each IsEmptyIfSpent (set views id (view_with v s))
spent-view_with views id v s live h = Each-set IsEmptyIfSpent views id (view_with v s) h (λ bad. absurd (omega arith))

sized-view_with : (z : Sizes) (views : List View) (id : ℕ) (v : View) (s : Step) → get_elem? views id ≡ some v → Each (KnowsSizes z) views → Each (KnowsSizes z) (set views id (view_with v s))
sized-view_with z views id v s at h = Each-set (KnowsSizes z) views id (view_with v s) h (Each-at (KnowsSizes z) views id v h at)

-- how often each word was won, when the step was on the word w
won_once-view_with : (views : List View) (id : ℕ) (v : View) (s : Step) → get_elem? views id ≡ some v → total (wins_on s.word) views + is_win s ≤ 1 → ((k : ℕ) → total (wins_on k) views ≤ 1) → (k : ℕ) → total (wins_on k) (set views id (view_with v s)) ≤ 1
won_once-view_with views id v s at here h k =
    let few = h k in
    let a : total (wins_on k) (set views id (view_with v s)) + wins_on k v ≡ total (wins_on k) views + wins_on k (view_with v s) = total-set (wins_on k) views id v (view_with v s) at in
    dite (ℕ_discrete s.word k)
    (λ same.
    let b : wins_on k (view_with v s) ≡ wins_on k v + (is_win s + 0) = ap (total is_win) (on-append_here k v.trace s same) ∙ total-append is_win (on k v.trace) (s ∷ []) in
    let c : total (wins_on k) views + is_win s ≤ 1 = subst (λ (w : ℕ). total (wins_on w) views + is_win s ≤ 1) same here in omega arith)
    (λ other. let b : wins_on k (view_with v s) ≡ wins_on k v = ap (total is_win) (on-append_other k v.trace s other) in omega arith)

-- a word of one trace, other than the step's
other_word : (P : ℕ → List WordTrace → Type 0) (words : List ℕ) (views : List View) (id j k m : ℕ) (v : View) (s : Step) → get_elem? views id ≡ some v → s.word ≡ k → j ≢ k
    → P (get_or words j 0) (map (word_trace j) views) → P (get_or (set words k m) j 0) (map (word_trace j) (set views id (view_with v s)))
other_word P words views id j k m v s at on_k ne h = same_word P _ (get_or words j 0) _ _ (get_or-set_other words k j m 0 ne)
    (map-set_same (word_trace j) views id v (view_with v s) at (word_trace-other j v s (λ bad. ne (sym bad ∙ on_k)))) h

-- the step's word
this_word : (P : ℕ → List WordTrace → Type 0) (words : List ℕ) (views : List View) (id j k m : ℕ) (v : View) (s : Step) → k < length words → s.word ≡ k → j ≡ k
    → P m (set (map (word_trace k) views) id (grown (word_trace k v) s)) → P (get_or (set words k m) j 0) (map (word_trace j) (set views id (view_with v s)))
this_word P words views id j k m v s long on_k e fits = let w : View = view_with v s in subst (λ (y : ℕ). P (get_or (set words k m) y 0) (map (word_trace y) (set views id w))) (sym e)
    (same_word P _ m _ _ (get_or-set_same words k m 0 long) (map-set (word_trace k) views id w ∙ ap (λ (t : WordTrace). set (map (word_trace k) views) id t) (word_trace-here k v s on_k)) fits)

-- the word of the step, and another
word_here : (words : List ℕ) (j k m : ℕ) → k < length words → k ≡ j → get_or (set words k m) j 0 ≡ m
word_here words j k m long e = ap (λ (y : ℕ). get_or (set words k m) y 0) (sym e) ∙ get_or-set_same words k m 0 long

word_other : (words : List ℕ) (j k m : ℕ) → k ≢ j → get_or (set words k m) j 0 ≡ get_or words j 0
word_other words j k m ne = get_or-set_other words k j m 0 (λ bad. ne (sym bad))

same_mark : (p q n m : ℕ) (xs ys : List WordTrace) → p ≡ q → n ≡ m → xs ≡ ys → IsMark q m ys → IsMark p n xs
same_mark p q n m xs ys e f g h = let Q : ℕ × ℕ × List WordTrace → Type 0 = λ u. IsMark u.0 u.1 u.2 in subst Q (λ i. (sym e i, sym f i, sym g i)) h

-- the value of a context, after a step on the word k, which is that value or another word
value_kept : (words : List ℕ) (views : List View) (id c k m : ℕ) (v : View) (s : Step) → k < length words → get_elem? views id ≡ some v → s.word ≡ k
    → (k ≡ value_place c → IsValue m (set (map (context_trace c) views) id (grown (context_trace c v) s)))
    → IsValue (get_or words (value_place c) 0) (map (context_trace c) views)
    → IsValue (get_or (set words k m) (value_place c) 0) (map (context_trace c) (set views id (view_with v s)))
value_kept words views id c k m v s long at on_k here was =
    let w : ℕ = value_place c in let claim : ℕ = claim_place c in
    let apart : claim ≢ w = λ bad. absurd (omega arith) in
    dite (ℕ_discrete k w)
    (λ e. same_word IsValue _ m _ _ (word_here words w k m long e) (traces_here w claim views id v s apart (on_k ∙ e)) (here e))
    (λ ne. dite (ℕ_discrete k claim)
    (λ e. same_word IsValue _ (get_or words w 0) _ _ (word_other words w k m ne) (traces_claimed w claim views id v s apart (on_k ∙ e))
    (IsValue-claimed (get_or words w 0) (map (context_trace c) views) id (context_trace c v) s (at_map (context_trace c) views id v at) was))
    (λ no_claim. same_word IsValue _ (get_or words w 0) _ _ (word_other words w k m ne) (traces_other w claim views id v s at (λ bad. ne (sym on_k ∙ bad)) (λ bad. no_claim (sym on_k ∙ bad))) was))

-- its mark, after a step that may be on either
mark_kept : (words : List ℕ) (views : List View) (id c k m : ℕ) (v : View) (s : Step) → k < length words → get_elem? views id ≡ some v → s.word ≡ k
    → (k ≡ value_place c → IsMark m (get_or words (mark_place c) 0) (map (mark_trace c) views))
    → (k ≡ mark_place c → IsMark (get_or words (value_place c) 0) m (set (map (mark_trace c) views) id (grown (mark_trace c v) s)))
    → IsMark (get_or words (value_place c) 0) (get_or words (mark_place c) 0) (map (mark_trace c) views)
    → IsMark (get_or (set words k m) (value_place c) 0) (get_or (set words k m) (mark_place c) 0) (map (mark_trace c) (set views id (view_with v s)))
mark_kept words views id c k m v s long at on_k valued here was =
    let w : ℕ = mark_place c in let value : ℕ = value_place c in let claim : ℕ = claim_place c in
    let n : ℕ = get_or words w 0 in let p : ℕ = get_or words value 0 in
    let apart : claim ≢ w = λ bad. absurd (omega arith) in
    dite (ℕ_discrete k w)
    (λ e. same_mark _ p _ m _ _ (word_other words value k m (λ bad. absurd (omega arith))) (word_here words w k m long e) (traces_here w claim views id v s apart (on_k ∙ e)) (here e))
    (λ ne. dite (ℕ_discrete k claim)
    (λ e. same_mark _ p _ n _ _ (word_other words value k m (λ bad. absurd (omega arith))) (word_other words w k m ne) (traces_claimed w claim views id v s apart (on_k ∙ e))
    (IsMark-claimed p n (map (mark_trace c) views) id (mark_trace c v) s (at_map (mark_trace c) views id v at) was))
    (λ no_claim.
    let same = traces_other w claim views id v s at (λ bad. ne (sym on_k ∙ bad)) (λ bad. no_claim (sym on_k ∙ bad)) in
    dite (ℕ_discrete k value)
    (λ e. same_mark _ m _ n _ _ (word_here words value k m long e) (word_other words w k m ne) same (valued e))
    (λ no_value. same_mark _ p _ n _ _ (word_other words value k m no_value) (word_other words w k m ne) same was)))

-- what a step on the word k that leaves m there has to keep for that word, whatever its kind
record Keeps (z : Sizes) (words : List ℕ) (views : List View) (id k m : ℕ) (v : View) (s : Step) : Type 0 where
  value : (c : ℕ) → c < z.contexts → k ≡ value_place c → IsValue m (set (map (context_trace c) views) id (grown (context_trace c v) s))
  valued : (c : ℕ) → c < z.contexts → k ≡ value_place c → IsMark m (get_or words (mark_place c) 0) (map (mark_trace c) views)
  mark : (c : ℕ) → c < z.contexts → k ≡ mark_place c → IsMark (get_or words (value_place c) 0) m (set (map (mark_trace c) views) id (grown (mark_trace c v) s))
  set_once : IsClaimOrFlag z k → IsSetOnce m (set (map (word_trace k) views) id (grown (word_trace k v) s))
  entry : IsBoardWord z k → IsEntry m (set (map (word_trace k) views) id (grown (word_trace k v) s))
  unused : IsUnused z k → m ≡ 0

-- the step leaves every other word as it was
IsKept-step : (z : Sizes) (words : List ℕ) (views : List View) (id k m : ℕ) (v : View) (s : Step) → k < word_count z → 0 < v.parts → get_elem? views id ≡ some v → s.word ≡ k → total (wins_on s.word) views + is_win s ≤ 1
    → Keeps z words views id k m v s → IsKept z words views → IsKept z (set words k m) (set views id (view_with v s))
IsKept-step z words views id k m v s inside live at on_k few keeps h =
    let long : k < length words = let l = h.counted in omega arith in record {
      counted = length-set words k m ∙ h.counted;
      parts = parts-view_with views id v s at ∙ h.parts;
      spent = spent-view_with views id v s live h.spent;
      sized = sized-view_with z views id v s at h.sized;
      won_once = won_once-view_with views id v s at few h.won_once;
      values = λ c low. value_kept words views id c k m v s long at on_k (keeps.value c low) (h.values c low);
      marks = λ c low. mark_kept words views id c k m v s long at on_k (keeps.valued c low) (keeps.mark c low) (h.marks c low);
      set_once = λ j is. dite (ℕ_discrete j k)
          (λ e. this_word IsSetOnce words views id j k m v s long on_k e (keeps.set_once (subst (IsClaimOrFlag z) e is)))
          (λ ne. other_word IsSetOnce words views id j k m v s at on_k ne (h.set_once j is));
      entries = λ j is. dite (ℕ_discrete j k)
          (λ e. this_word IsEntry words views id j k m v s long on_k e (keeps.entry (subst (IsBoardWord z) e is)))
          (λ ne. other_word IsEntry words views id j k m v s at on_k ne (h.entries j is));
      unused = λ j is. dite (ℕ_discrete j k)
          (λ e. word_here words j k m long (sym e) ∙ keeps.unused (subst (IsUnused z) e is))
          (λ ne. word_other words j k m (λ bad. ne (sym bad)) ∙ h.unused j is);
    }

-- a step on the value of a context, after which its mark still fits
pub IsKept-value : (z : Sizes) (words : List ℕ) (views : List View) (id c m : ℕ) (v : View) (s : Step) → c < z.contexts → 0 < v.parts → get_elem? views id ≡ some v → s.word ≡ value_place c → is_win s ≡ 0 → IsKept z words views
    → IsValue m (set (map (context_trace c) views) id (grown (context_trace c v) s))
    → IsMark m (get_or words (mark_place c) 0) (map (mark_trace c) views)
    → IsKept z (set words (value_place c) m) (set views id (view_with v s))
IsKept-value z words views id c m v s low live at on_c no_win h fits valued =
    IsKept-step z words views id (value_place c) m v s (let lines = lines_of z in omega arith) live at on_c (let few = h.won_once s.word in omega arith)
    record {
      value = λ b lower e. let same : c ≡ b = omega arith in subst (λ (y : ℕ). IsValue m (set (map (context_trace y) views) id (grown (context_trace y v) s))) same fits;
      valued = λ b lower e. let same : c ≡ b = omega arith in subst (λ (y : ℕ). IsMark m (get_or words (mark_place y) 0) (map (mark_trace y) views)) same valued;
      mark = λ b lower bad. absurd (omega arith);
      set_once = λ is. absurd (IsClaimOrFlag-not_value z (value_place c) c low is refl);
      entry = λ is. absurd (IsBoardWord-not_value z (value_place c) c is refl);
      unused = λ is. absurd (IsUnused-not_value z (value_place c) c low is refl);
    } h

-- a step on the mark of a context
pub IsKept-mark : (z : Sizes) (words : List ℕ) (views : List View) (id c m : ℕ) (v : View) (s : Step) → c < z.contexts → 0 < v.parts → get_elem? views id ≡ some v → s.word ≡ mark_place c → is_win s ≡ 0 → IsKept z words views
    → IsMark (get_or words (value_place c) 0) m (set (map (mark_trace c) views) id (grown (mark_trace c v) s))
    → IsKept z (set words (mark_place c) m) (set views id (view_with v s))
IsKept-mark z words views id c m v s low live at on_c no_win h fits =
    IsKept-step z words views id (mark_place c) m v s (let lines = lines_of z in omega arith) live at on_c (let few = h.won_once s.word in omega arith)
    record {
      value = λ b lower bad. absurd (omega arith);
      valued = λ b lower bad. absurd (omega arith);
      mark = λ b lower e. let same : c ≡ b = omega arith in subst (λ (y : ℕ). IsMark (get_or words (value_place y) 0) m (set (map (mark_trace y) views) id (grown (mark_trace y v) s))) same fits;
      set_once = λ is. absurd (IsClaimOrFlag-not_mark z (mark_place c) c low is refl);
      entry = λ is. absurd (IsBoardWord-not_mark z (mark_place c) c is refl);
      unused = λ is. absurd (IsUnused-not_mark z (mark_place c) c low is refl);
    } h

-- a step on a claim or a flag
pub IsKept-set_once : (z : Sizes) (words : List ℕ) (views : List View) (id k m : ℕ) (v : View) (s : Step) → IsClaimOrFlag z k → 0 < v.parts → get_elem? views id ≡ some v → s.word ≡ k → total (wins_on s.word) views + is_win s ≤ 1 → IsKept z words views
    → IsSetOnce m (set (map (word_trace k) views) id (grown (word_trace k v) s))
    → IsKept z (set words k m) (set views id (view_with v s))
IsKept-set_once z words views id k m v s named live at on_k few h fits =
    IsKept-step z words views id k m v s named.inside live at on_k few
    record {
      value = λ b low bad. absurd (IsClaimOrFlag-not_value z k b low named bad);
      valued = λ b low bad. absurd (IsClaimOrFlag-not_value z k b low named bad);
      mark = λ b low bad. absurd (IsClaimOrFlag-not_mark z k b low named bad);
      set_once = λ _. fits;
      entry = λ is. absurd (IsBoardWord-not_flag z k k named is refl);
      unused = λ is. absurd (IsUnused-not_set_once z k k named is refl);
    } h

-- a step on an entry of the board
pub IsKept-entry : (z : Sizes) (words : List ℕ) (views : List View) (id k m : ℕ) (v : View) (s : Step) → IsBoardWord z k → 0 < v.parts → get_elem? views id ≡ some v → s.word ≡ k → is_win s ≡ 0 → IsKept z words views
    → IsEntry m (set (map (word_trace k) views) id (grown (word_trace k v) s))
    → IsKept z (set words k m) (set views id (view_with v s))
IsKept-entry z words views id k m v s named live at on_k no_win h fits =
    IsKept-step z words views id k m v s (IsBoardWord-inside z k named) live at on_k (let few = h.won_once s.word in omega arith)
    record {
      value = λ b low bad. absurd (IsBoardWord-not_value z k b named bad);
      valued = λ b low bad. absurd (IsBoardWord-not_value z k b named bad);
      mark = λ b low bad. absurd (IsBoardWord-not_mark z k b named bad);
      set_once = λ is. absurd (IsBoardWord-not_flag z k k is named refl);
      entry = λ _. fits;
      unused = λ is. absurd (IsUnused-not_entry z k k named is refl);
    } h
