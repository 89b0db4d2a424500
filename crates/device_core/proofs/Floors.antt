-- The floors of open timelines.
use Rattle.std.proofs.Common.{◌≡◌, ℕ, ◌+◌, ◌<◌, ◌≤◌, ◌^◌, ◌⊎◌, inl, inr, Bool, true, false, cond, min, nat_eq, nat_le, ◌&&◌, ◌||◌, refl, sym, ap, ◌∙◌, subst, List, [], ◌∷◌, length, get_or, drop, arith}
use Rattle.std.specs.Prelude.{Option, None, Some, IfSome, is_some, option_map}
use Rattle.std.specs.Bool.{OnTrue, OnFalse}
use Rattle.std.specs.List.Sorted.{IsStrictlySortedBy}
use Rattle.std.specs.Map.{lookup, set_value}
use Rattle.std.proofs.lemmas.Bool.{and_from, and_parts, cases_Bool, eqb-true, eq-eqb, false≢true, leb-true, leb-false}
use Rattle.std.proofs.lemmas.List.{drop_all, drop_more}
use Rattle.std.proofs.lemmas.Map.Made.{lookup-map_values}
use Rattle.std.proofs.lemmas.Map.Steps.{set_value_same}
use Rattle.device_core.specs.declared.fence.Fence.{Fence}
use Rattle.device_core.specs.declared.fence.Timeline.{Timeline}
use Rattle.device_core.specs.declared.timelines.OpenTimeline.{OpenTimeline}
use Rattle.device_core.specs.declared.waiting_files.Waiter.{Waiter}
use Rattle.device_core.specs.theorem.Fences.{is_pending, waits_at}
use Rattle.device_core.specs.Floors.{HasFloors, HasRisenQuietly, TimelinesState, lowered, lowered_by, settled, timelines_in, timelines_state}
use Rattle.device_core.specs.theorem.State.{AreInOrder, at, holds, is_due_at, raised, waits_of}

-- a timeline that is found by its number
pub at-timelines : (es : List (ℕ × OpenTimeline)) (number : ℕ) → at (timelines_in es) number ≡ option_map (λ (o : OpenTimeline). o.timeline) (at es number)
at-timelines es number = lookup-map_values (λ (o : OpenTimeline). o.timeline) (nat_eq number) es

pub at-view : (es : List (ℕ × OpenTimeline)) (index : List Waiter) (d : TimelinesState) → timelines_state es index ≡ d → (number : ℕ) → at d.entries number ≡ option_map (λ (o : OpenTimeline). o.timeline) (at es number)
at-view es index d view number = ap (λ (s : TimelinesState). at s.entries number) (sym view) ∙ at-timelines es number

-- one timeline is changed or removed
pub timelines-changed : (old new : List (ℕ × OpenTimeline)) (number : ℕ) (w : Option OpenTimeline) (index : List Waiter) (d : TimelinesState) → timelines_state old index ≡ d → ((q : ℕ) → at new q ≡ cond (nat_eq number q) w (at old q)) → (q : ℕ) → at (timelines_in new) q ≡ cond (nat_eq number q) (option_map (λ (o : OpenTimeline). o.timeline) w) (at d.entries q)
timelines-changed old new number w index d view is q =
    at-timelines new q ∙ ap (option_map (λ (o : OpenTimeline). o.timeline)) (is q) ∙ elim (cases_Bool (nat_eq number q)) [
      | inl same ↦ rw same refl
      | inr other ↦ rw other (sym (at-view old index d view q))
    ]

pub is_some-map : {X Y : Type 0} (f : X → Y) (o : Option X) → is_some o ≡ is_some (option_map f o)
is_some-map f None = refl
is_some-map f (Some x) = refl

-- a floor that is unchanged or lower
abbrev IsAtMost : Option OpenTimeline → ℕ → Type 0
IsAtMost o value = IfSome o (λ t. t.floor ≤ value)

low-by : (b : Bool) (o p : Option OpenTimeline) (value : ℕ) → (b ≡ true → IsAtMost o value) → (b ≡ false → IsAtMost p value) → IsAtMost (cond b o p) value
low-by true o p value h g = h refl
low-by false o p value h g = g refl

module _ (old new : List (ℕ × OpenTimeline)) (number : ℕ) where
  -- the timeline at one number is another
  at-same : (q : ℕ) → number ≡ q → nat_eq number q ≡ true
  at-same q is = eq-eqb number q is

  pub HasFloors-written : (index fewer : List Waiter) (w : Option OpenTimeline) → ((q : ℕ) → at new q ≡ cond (nat_eq number q) w (at old q)) → HasFloors old index → AreInOrder fewer → ((k : Waiter) → holds fewer k ≡ true → holds index k ≡ true)
      → ((k : Waiter) → k.timeline ≡ number → holds fewer k ≡ true → IsAtMost w k.value) → HasFloors new fewer
  HasFloors-written index fewer w is kept ordered less own = record {
    floors = λ k there. subst (λ o. IsAtMost o k.value) (sym (is k.timeline)) (low-by (nat_eq number k.timeline) w (at old k.timeline) k.value (λ same. own k (sym (eqb-true number k.timeline same)) there) (λ other. kept.floors k (less k there)));
    ordered = ordered;
  }

pub HasFloors-none : (es : List (ℕ × OpenTimeline)) (index : List Waiter) → index ≡ [] → HasFloors es index
unfolding IsStrictlySortedBy
HasFloors-none es index is = record {
  floors = λ k there. absurd (false≢true (sym (ap (λ ks. holds ks k) is) ∙ there));
  ordered = subst AreInOrder (sym is) tt;
}

-- the same timelines with a smaller index
pub HasFloors-fewer : (es : List (ℕ × OpenTimeline)) (index fewer : List Waiter) → HasFloors es index → AreInOrder fewer → ((k : Waiter) → holds fewer k ≡ true → holds index k ≡ true) → HasFloors es fewer
HasFloors-fewer es index fewer kept ordered less = record { floors = λ k there. kept.floors k (less k there); ordered = ordered }

-- a timeline that is opened has the floor 0
pub HasFloors-opened : (old new : List (ℕ × OpenTimeline)) (number : ℕ) (o : OpenTimeline) (index : List Waiter) → ((q : ℕ) → at new q ≡ cond (nat_eq number q) (Some o) (at old q)) → o.floor ≡ 0 → HasFloors old index → HasFloors new index
HasFloors-opened old new number o index is low kept = HasFloors-written old new number index index (Some o) is kept kept.ordered (λ k there. there) (λ k its there. omega (arith, low))

-- a timeline whose floor is not raised
own_floor : (number value : ℕ) (was : Option OpenTimeline) (k : Waiter) (es : List (ℕ × OpenTimeline)) → was ≡ at es number → k.timeline ≡ number → IsAtMost (at es k.timeline) k.value → IsAtMost was k.value
own_floor number value was k es there its low = subst (λ o. IsAtMost o k.value) (ap (at es) its ∙ sym there) low

pub HasFloors-kept : (old new : List (ℕ × OpenTimeline)) (number : ℕ) (o w : OpenTimeline) (index : List Waiter) → ((q : ℕ) → at new q ≡ cond (nat_eq number q) (Some w) (at old q)) → Some o ≡ at old number → w.floor ≡ o.floor → HasFloors old index → HasFloors new index
HasFloors-kept old new number o w index is there same kept =
    HasFloors-written old new number index index (Some w) is kept kept.ordered (λ k held. held)
    (λ k its held. let low : o.floor ≤ k.value = own_floor number 0 (Some o) k old there its (kept.floors k held) in omega (arith, same, low))

-- a timeline that is closed
pub HasFloors-closed : (old new : List (ℕ × OpenTimeline)) (number : ℕ) (index fewer : List Waiter) → ((q : ℕ) → at new q ≡ cond (nat_eq number q) None (at old q)) → HasFloors old index → AreInOrder fewer → ((k : Waiter) → holds fewer k ≡ true → holds index k ≡ true) → HasFloors new fewer
HasFloors-closed old new number index fewer is kept ordered less = HasFloors-written old new number index fewer None is kept ordered less (λ k its there. tt)

-- a timeline that has risen
settled-low : (value floor : ℕ) (o : Option OpenTimeline) (most : ℕ) → floor ≤ most → IsAtMost (option_map (settled value floor) o) most
settled-low value floor None most low = tt
settled-low value floor (Some o) most low = low

settled-at : (number value floor : ℕ) (old : List (ℕ × OpenTimeline)) (q : ℕ) → cond (nat_eq number q) (option_map (settled value floor) (at old q)) (at old q) ≡ cond (nat_eq number q) (option_map (settled value floor) (at old number)) (at old q)
settled-at number value floor old q = elim (cases_Bool (nat_eq number q)) [
  | inl same ↦ ap (λ n. cond (nat_eq number q) (option_map (settled value floor) (at old n)) (at old q)) (sym (eqb-true number q same))
  | inr other ↦ rw other refl
]

pub HasFloors-settled : (old new : List (ℕ × OpenTimeline)) (number value floor : ℕ) (index fewer : List Waiter) → ((q : ℕ) → at new q ≡ cond (nat_eq number q) (option_map (settled value floor) (at old q)) (at old q)) → HasFloors old index → AreInOrder fewer → ((k : Waiter) → holds fewer k ≡ true → holds index k ≡ true)
    → ((k : Waiter) → k.timeline ≡ number → holds fewer k ≡ true → floor ≤ k.value) → HasFloors new fewer
HasFloors-settled old new number value floor index fewer is kept ordered less low =
    HasFloors-written old new number index fewer (option_map (settled value floor) (at old number)) (λ q. is q ∙ settled-at number value floor old q) kept ordered less
    (λ k its there. settled-low value floor (at old number) k.value (low k its there))

pub settled-timelines : (old new : List (ℕ × OpenTimeline)) (number value floor : ℕ) → ((q : ℕ) → at new q ≡ cond (nat_eq number q) (option_map (settled value floor) (at old q)) (at old q)) → IfSome (at (timelines_in old) number) (λ t. (q : ℕ) → at (timelines_in new) q ≡ cond (nat_eq number q) (Some (record t { value = value })) (at (timelines_in old) q))
settled-timelines old new number value floor is = subst (λ o. IfSome o (λ t. (q : ℕ) → at (timelines_in new) q ≡ cond (nat_eq number q) (Some (record t { value = value })) (at (timelines_in old) q))) (sym (at-timelines old number)) (go (at old number) refl)
  where
    go : (o : Option OpenTimeline) → at old number ≡ o → IfSome (option_map (λ (o : OpenTimeline). o.timeline) o) (λ t. (q : ℕ) → at (timelines_in new) q ≡ cond (nat_eq number q) (Some (record t { value = value })) (at (timelines_in old) q))
    go None there = tt
    go (Some o) there = λ q.
        at-timelines new q
        ∙ ap (option_map (λ (p : OpenTimeline). p.timeline)) (is q ∙ settled-at number value floor old q ∙ ap (λ p. cond (nat_eq number q) (option_map (settled value floor) p) (at old q)) there)
        ∙ elim (cases_Bool (nat_eq number q)) [
          | inl same ↦ rw same refl
          | inr other ↦ rw other (sym (at-timelines old q))
        ]

-- the least point of a timeline
pub least-floor : (number value : ℕ) (first : Waiter) (index : List Waiter) → is_due_at number value first ≡ true → ((k : Waiter) → is_due_at number value k ≡ true → holds index k ≡ true → first.value ≤ k.value) → (k : Waiter) → k.timeline ≡ number → holds index k ≡ true → first.value ≤ k.value
least-floor number value first index due least k its there = elim (cases_Bool (nat_le k.value value)) [
  | inl low ↦ least k (and_from (nat_eq k.timeline number) (nat_le k.value value) (eq-eqb k.timeline number its) low) there
  | inr high ↦
      let past = leb-false k.value value high in
      let most = leb-true first.value value (and_parts (nat_eq first.timeline number) (nat_le first.value value) due).1 in
      omega (arith, past, most)
]

pub none-floor : (number value : ℕ) (index : List Waiter) → ((k : Waiter) → is_due_at number value k ≡ true → holds index k ≡ false) → (k : Waiter) → k.timeline ≡ number → holds index k ≡ true → value ≤ k.value
none-floor number value index none k its there = elim (cases_Bool (nat_le k.value value)) [
  | inl low ↦ absurd (false≢true (sym (none k (and_from (nat_eq k.timeline number) (nat_le k.value value) (eq-eqb k.timeline number its) low)) ∙ there))
  | inr high ↦ let past = leb-false k.value value high in omega (arith, past)
]

-- floors that are lowered to the fences of a file
pub lowered_by-timeline : (f : Fence) (o : OpenTimeline) → (lowered_by f o).timeline ≡ o.timeline
lowered_by-timeline f o = elim (cases_Bool (is_pending f)) [
  | inl pending ↦ rw pending refl
  | inr signalled ↦ rw signalled refl
]

one-low : (f : Fence) (o : OpenTimeline) (b c : Bool) → (cond b (cond c (record o { floor = min o.floor f.value }) o) o).floor ≤ o.floor
one-low f o true true = omega arith
one-low f o true false = omega arith
one-low f o false c = omega arith

lowered-low : (number : ℕ) (fs : List Fence) (o : OpenTimeline) → (lowered number fs o).floor ≤ o.floor
lowered-low number [] o = omega arith
lowered-low number (f ∷ fs) o =
    let rest = lowered-low number fs (cond (nat_eq f.timeline number) (lowered_by f o) o) in
    let one = one-low f o (nat_eq f.timeline number) (is_pending f) in
    omega (arith, rest, one)

or_cases : (a b : Bool) → (a || b) ≡ true → (a ≡ true) ⊎ (b ≡ true)
or_cases true b h = inl refl
or_cases false b h = inr h

lowered-waits : (k : Waiter) (fs : List Fence) (o : OpenTimeline) → waits_at k fs ≡ true → (lowered k.timeline fs o).floor ≤ k.value
lowered-waits k [] o waits = absurd (false≢true waits)
lowered-waits k (f ∷ fs) o waits = go (or_cases (is_pending f && (nat_eq f.timeline k.timeline && nat_eq f.value k.value)) (waits_at k fs) waits) (λ p later. lowered-waits k fs p later)
  where
    next : OpenTimeline
    next = cond (nat_eq f.timeline k.timeline) (lowered_by f o) o

    go : ((is_pending f && (nat_eq f.timeline k.timeline && nat_eq f.value k.value)) ≡ true) ⊎ (waits_at k fs ≡ true) → ((p : OpenTimeline) → waits_at k fs ≡ true → (lowered k.timeline fs p).floor ≤ k.value) → (lowered k.timeline fs next).floor ≤ k.value
    go (inl here) rest =
        let parts = and_parts (is_pending f) (nat_eq f.timeline k.timeline && nat_eq f.value k.value) here in
        let both = and_parts (nat_eq f.timeline k.timeline) (nat_eq f.value k.value) parts.1 in
        let value : f.value ≡ k.value = eqb-true f.value k.value both.1 in
        let is : next ≡ record o { floor = min o.floor f.value } = ap (λ b. cond b (lowered_by f o) o) both.0 ∙ ap (λ b. cond b (record o { floor = min o.floor f.value }) o) parts.0 in
        let floor : next.floor ≡ min o.floor f.value = ap (λ (p : OpenTimeline). p.floor) is in
        let down = lowered-low k.timeline fs next in
        omega (arith, down, floor, value)
    go (inr later) rest = rest next later

lowered-most : (k : Waiter) (fs : List Fence) (o : Option OpenTimeline) → IsAtMost o k.value → IsAtMost (option_map (lowered k.timeline fs) o) k.value
lowered-most k fs None low = tt
lowered-most k fs (Some o) low = let down = lowered-low k.timeline fs o in omega (arith, down, low)

lowered-own : (k : Waiter) (fs : List Fence) (o : Option OpenTimeline) → waits_at k fs ≡ true → IsAtMost (option_map (lowered k.timeline fs) o) k.value
lowered-own k fs None waits = tt
lowered-own k fs (Some o) waits = lowered-waits k fs o waits

pub HasFloors-lowered : (old new : List (ℕ × OpenTimeline)) (index more : List Waiter) (file : ℕ) (fs : List Fence) → ((q : ℕ) → at new q ≡ option_map (lowered q fs) (at old q)) → HasFloors old index → AreInOrder more → ((k : Waiter) → holds more k ≡ (waits_of file fs k || holds index k)) → HasFloors new more
HasFloors-lowered old new index more file fs is kept ordered put = record {
  floors = λ k there. subst (λ o. IsAtMost o k.value) (sym (is k.timeline)) (go k (or_cases (waits_of file fs k) (holds index k) (sym (put k) ∙ there)));
  ordered = ordered;
}
  where
    go : (k : Waiter) → (waits_of file fs k ≡ true) ⊎ (holds index k ≡ true) → IsAtMost (option_map (lowered k.timeline fs) (at old k.timeline)) k.value
    go k (inl own) = lowered-own k fs (at old k.timeline) (and_parts (nat_eq k.file file) (waits_at k fs) own).1
    go k (inr other) = lowered-most k fs (at old k.timeline) (kept.floors k other)

pub HasFloors-lowered_only : (old new : List (ℕ × OpenTimeline)) (index : List Waiter) (fs : List Fence) → ((q : ℕ) → at new q ≡ option_map (lowered q fs) (at old q)) → HasFloors old index → HasFloors new index
HasFloors-lowered_only old new index fs is kept = record {
  floors = λ k there. subst (λ o. IsAtMost o k.value) (sym (is k.timeline)) (lowered-most k fs (at old k.timeline) (kept.floors k there));
  ordered = kept.ordered;
}

-- a timeline is written, but none changes
pub timelines-written : (test : ℕ → Bool) (es : List (ℕ × OpenTimeline)) (o w : OpenTimeline) → Some o ≡ lookup test es → w.timeline ≡ o.timeline → timelines_in (set_value test es w) ≡ timelines_in es
timelines-written test [] o w there same = refl
timelines-written test (e ∷ es) o w there same = go (test e.0) refl (λ later. timelines-written test es o w later same)
  where
    go : (b : Bool) → test e.0 ≡ b → (Some o ≡ lookup test es → timelines_in (set_value test es w) ≡ timelines_in es) → timelines_in (set_value test (e ∷ es) w) ≡ timelines_in (e ∷ es)
    go true is rest =
        let found : Some o ≡ Some e.1 = there ∙ ap (λ b. cond b (Some e.1) (lookup test es)) is in
        let its : o.timeline ≡ e.1.timeline = ap (λ (p : Option OpenTimeline). timeline_or o.timeline p) found in
        ap (λ b. timelines_in (cond b ((e.0, w) ∷ es) (e ∷ set_value test es w))) is ∙ ap (λ t. (e.0, t) ∷ timelines_in es) (same ∙ its)
      where
        timeline_or : Timeline → Option OpenTimeline → Timeline
        timeline_or t None = t
        timeline_or t (Some p) = p.timeline
    go false is rest =
        let later : Some o ≡ lookup test es = there ∙ ap (λ b. cond b (Some e.1) (lookup test es)) is in
        ap (λ b. timelines_in (cond b ((e.0, w) ∷ es) (e ∷ set_value test es w))) is ∙ ap (λ xs. (e.0, e.1.timeline) ∷ xs) (rest later)

-- a rise that stays below the floor
none_below : (number value : ℕ) (o : OpenTimeline) (es : List (ℕ × OpenTimeline)) (index : List Waiter) → Some o ≡ at es number → value < o.floor → HasFloors es index → (k : Waiter) → is_due_at number value k ≡ true → holds index k ≡ false
none_below number value o es index there below kept k due = elim (cases_Bool (holds index k)) [
  | inl held ↦
      let parts = and_parts (nat_eq k.timeline number) (nat_le k.value value) due in
      let its = eqb-true k.timeline number parts.0 in
      let most = leb-true k.value value parts.1 in
      let low : o.floor ≤ k.value = own_floor number 0 (Some o) k es there its (kept.floors k held) in
      absurd (omega (arith, most, low, below))
  | inr away ↦ away
]

pub risen-quietly : (b : Bool) (number n : ℕ) (old new : List (ℕ × OpenTimeline)) (index : List Waiter) (o w : OpenTimeline) (d : TimelinesState) → timelines_state old index ≡ d → Some o ≡ at old number → ((q : ℕ) → at new q ≡ cond (nat_eq number q) (Some w) (at old q)) → HasFloors old index
    → OnTrue b (o.timeline.value + n < o.floor) → OnTrue b (o.timeline.value + n < 2 ^ 64) → OnTrue b (w ≡ record o { timeline = raised o.timeline n }) → OnTrue b (HasRisenQuietly d (timelines_state new index) number n)
risen-quietly false number n old new index o w d view there written kept below fits risen = tt
risen-quietly true number n old new index o w d view there written kept below fits risen = subst (λ s. HasRisenQuietly s (timelines_state new index) number n) view (record {
  known = rw is refl;
  fits = rw is fits;
  rises = rw is (λ q. at-timelines new q ∙ ap (option_map (λ (p : OpenTimeline). p.timeline)) (written q) ∙ by q);
  same = refl;
  none = rw is (none_below number (o.timeline.value + n) o old index there below kept);
})
  where
    is : at (timelines_in old) number ≡ Some o.timeline
    is = at-timelines old number ∙ ap (option_map (λ (p : OpenTimeline). p.timeline)) (sym there)

    by : (q : ℕ) → option_map (λ (p : OpenTimeline). p.timeline) (cond (nat_eq number q) (Some w) (at old q)) ≡ cond (nat_eq number q) (Some (raised o.timeline n)) (at (timelines_in old) q)
    by q = elim (cases_Bool (nat_eq number q)) [
      | inl same ↦ rw same (ap (λ (p : OpenTimeline). Some p.timeline) risen)
      | inr other ↦ rw other (sym (at-timelines old q))
    ]

pub not-risen : (b : Bool) (number : ℕ) (old new : List (ℕ × OpenTimeline)) (index : List Waiter) (o w : OpenTimeline) (d : TimelinesState) → timelines_state old index ≡ d → Some o ≡ at old number → new ≡ set_value (nat_eq number) old w → OnFalse b (w ≡ o) → OnFalse b (timelines_state new index ≡ d)
not-risen true number old new index o w d view there written same = tt
not-risen false number old new index o w d view there written same = ap (λ es. timelines_state es index) (written ∙ ap (set_value (nat_eq number) old) same ∙ set_value_same (nat_eq number) old o (sym there)) ∙ view

-- in either case no floor is raised
pub risen-floor : (b : Bool) (n : ℕ) (o w : OpenTimeline) → OnTrue b (w ≡ record o { timeline = raised o.timeline n }) → OnFalse b (w ≡ o) → w.floor ≡ o.floor
risen-floor true n o w risen same = ap (λ (p : OpenTimeline). p.floor) risen
risen-floor false n o w risen same = ap (λ (p : OpenTimeline). p.floor) same

-- one fence after another
lowered-one : (number : ℕ) (f : Fence) (old : List (ℕ × OpenTimeline)) (o : Option OpenTimeline) → cond (nat_eq f.timeline number) (option_map (lowered_by f) o) o ≡ option_map (lowered number (f ∷ [])) o
lowered-one number f old None = elim (cases_Bool (nat_eq f.timeline number)) [
  | inl same ↦ rw same refl
  | inr other ↦ rw other refl
]
lowered-one number f old (Some o) = elim (cases_Bool (nat_eq f.timeline number)) [
  | inl same ↦ rw same refl
  | inr other ↦ rw other refl
]

lowered-next : (number : ℕ) (f : Fence) (fs : List Fence) (o : Option OpenTimeline) → option_map (lowered number fs) (option_map (lowered number (f ∷ [])) o) ≡ option_map (lowered number (f ∷ fs)) o
lowered-next number f fs None = refl
lowered-next number f fs (Some o) = refl

lowered-more : (number : ℕ) (f : Fence) (fs : List Fence) (new now : Option OpenTimeline) → new ≡ cond (nat_eq f.timeline number) (option_map (lowered_by f) now) now → option_map (lowered number fs) new ≡ option_map (lowered number (f ∷ fs)) now
lowered-more number f fs new now step = ap (option_map (lowered number fs)) (step ∙ lowered-one number f [] now) ∙ lowered-next number f fs now

pub lowered-step : (number : ℕ) (fs : List Fence) (i : ℕ) (d : Fence) (new now all : Option OpenTimeline) → i < length fs → new ≡ cond (nat_eq (get_or fs i d).timeline number) (option_map (lowered_by (get_or fs i d)) now) now → option_map (lowered number (drop i fs)) now ≡ all → option_map (lowered number (drop (i + 1) fs)) new ≡ all
lowered-step number fs i d new now all low step so_far =
    lowered-more number (get_or fs i d) (drop (i + 1) fs) new now step
    ∙ ap (λ gs. option_map (lowered number gs) now) (sym (drop_more fs i d low)) ∙ so_far

lowered-none : (number : ℕ) (o : Option OpenTimeline) → option_map (lowered number []) o ≡ o
lowered-none number None = refl
lowered-none number (Some o) = refl

pub lowered-all : (number : ℕ) (fs : List Fence) (i : ℕ) (now all : Option OpenTimeline) → length fs ≤ i → option_map (lowered number (drop i fs)) now ≡ all → now ≡ all
lowered-all number fs i now all past so_far = sym (lowered-none number now) ∙ ap (λ gs. option_map (lowered number gs) now) (sym (drop_all i fs past)) ∙ so_far
