-- Inserting a fence among others, by rising timeline.
use Rattle.std.proofs.Common.{◌≡◌, ℕ, ◌<◌, ◌≤◌, suc, nat_eq, nat_lt, inl, inr, true, false, cond, refl, sym, ap, ◌∙◌, List, [], ◌∷◌, ◌++◌, map, fold, slice_get, Option, None, Some, All, AllPairs, Contains, get_or, arith}
use Rattle.std.proofs.lemmas.Bool.{cases_Bool, eqb-true, eqb-false, ltb-true, ltb-false}
use Rattle.std.proofs.lemmas.List.Elements.{All-nil, All-cons, All-head, All-tail, All-weaker, All-map}
use Rattle.std.proofs.lemmas.List.{get_or-map, length-map}
use Rattle.std.proofs.lemmas.List.Kept.{AllPairs-from_increasing}
use Rattle.point_core.specs.declared.entry.Entry.{Entry}
use Rattle.point_core.specs.Agreement.{AgreesAbove, as_entry}
use Rattle.point_core.proofs.Agreement.{AgreesAbove-refl, AgreesAbove-sym, AgreesAbove-trans, AgreesAbove-append, AgreesAbove-comm, AgreesAbove-signalled, AgreesAbove-covered, IsStrictlyIncreasing-cons}
use Rattle.device_core.specs.declared.fence.Fence.{Fence}
use Rattle.device_core.specs.theorem.Fences.{is_pending, pending_of, place_of, with_fence_at, with_fence, merged, point_in, entries_in, HasRisingTimelines, IsReachedUnlessPending}

-- the first fence is of a lower timeline: the new one is inserted among the others
at_later : (f : Fence) (fs : List Fence) (g : Fence) (p : ℕ) (o : Option Fence) → with_fence_at (f ∷ fs) (suc p) o g ≡ f ∷ with_fence_at fs p o g
at_later f fs g p None = refl
at_later f fs g p (Some h) = elim (cases_Bool (nat_eq h.timeline g.timeline)) [
  | inl same ↦ elim (cases_Bool (nat_lt h.value g.value)) [
    | inl later ↦ rw (same, later) refl
    | inr other ↦ rw (same, other) refl
  ]
  | inr apart ↦ rw apart refl
]

pub with_fence-later : (f : Fence) (fs : List Fence) (g : Fence) → nat_lt f.timeline g.timeline ≡ true → with_fence (f ∷ fs) g ≡ f ∷ with_fence fs g
with_fence-later f fs g lower =
    ap (λ b. let place = cond b (suc (place_of g.timeline fs)) 0 in with_fence_at (f ∷ fs) place (slice_get (f ∷ fs) place) g) lower
    ∙ at_later f fs g (place_of g.timeline fs) (slice_get fs (place_of g.timeline fs))

pub with_fence-here : (f : Fence) (fs : List Fence) (g : Fence) → nat_lt f.timeline g.timeline ≡ false → with_fence (f ∷ fs) g ≡ cond (nat_eq f.timeline g.timeline) (cond (nat_lt f.value g.value) (g ∷ fs) (f ∷ fs)) (g ∷ f ∷ fs)
with_fence-here f fs g upper =
    ap (λ b. let place = cond b (suc (place_of g.timeline fs)) 0 in with_fence_at (f ∷ fs) place (slice_get (f ∷ fs) place) g) upper

-- a fence is inserted after the first, in its place, not at all, or before it
pub with_fence-cases : (P : List Fence → Type 0) (f : Fence) (fs : List Fence) (g : Fence)
    → (nat_lt f.timeline g.timeline ≡ true → P (f ∷ with_fence fs g))
    → (f.timeline ≡ g.timeline → f.value < g.value → P (g ∷ fs))
    → (f.timeline ≡ g.timeline → g.value ≤ f.value → P (f ∷ fs))
    → (g.timeline < f.timeline → P (g ∷ f ∷ fs))
    → P (with_fence (f ∷ fs) g)
with_fence-cases P f fs g later instead not_at_all before = elim (cases_Bool (nat_lt f.timeline g.timeline)) [
  | inl lower ↦ rw (with_fence-later f fs g lower) (later lower)
  | inr upper ↦
      let high : g.timeline ≤ f.timeline = ltb-false _ _ upper in
      rw (with_fence-here f fs g upper) (elim (cases_Bool (nat_eq f.timeline g.timeline)) [
        | inl same ↦ rw same (elim (cases_Bool (nat_lt f.value g.value)) [
          | inl low ↦ rw low (instead (eqb-true _ _ same) (ltb-true _ _ low))
          | inr least ↦ rw least (not_at_all (eqb-true _ _ same) (ltb-false _ _ least))
        ])
        | inr apart ↦
            let other = eqb-false f.timeline g.timeline apart in
            rw apart (before (omega arith))
      ])
]

pub with_fence-All : (P : Fence → Type 0) (fs : List Fence) (g : Fence) → All P fs → P g → All P (with_fence fs g)
with_fence-All P [] g all here = All-cons P g [] here all
with_fence-All P (f ∷ fs) g all here =
    let first = All-head P f fs all in
    let rest = All-tail P f fs all in
    let again = with_fence-All P fs g rest here in
    with_fence-cases (All P) f fs g
    (λ lower. All-cons P f (with_fence fs g) first again)
    (λ same low. All-cons P g fs here rest)
    (λ same low. all)
    (λ low. All-cons P g (f ∷ fs) here all)

-- fences by rising timeline, from the first on
abbrev pub Rising : List Fence → Type 0
Rising [] = Unit {0}
Rising (f ∷ fs) = All (λ (g : Fence). f.timeline < g.timeline) fs × Rising fs

pub Rising-is : (fs : List Fence) → Rising fs → HasRisingTimelines fs
Rising-is [] h = λ k low. absurd (omega arith)
Rising-is (f ∷ fs) h =
    IsStrictlyIncreasing-cons f.timeline (map (λ (g : Fence). g.timeline) fs)
    (All-map (λ t. f.timeline < t) (λ (g : Fence). g.timeline) fs h.0) (Rising-is fs h.1)

Rising-pairs : (fs : List Fence) → AllPairs (λ x y. x < y) (map (λ (f : Fence). f.timeline) fs) → Rising fs
Rising-pairs [] h = tt
Rising-pairs (f ∷ fs) h =
    let rest : AllPairs (λ x y. x < y) (map (λ (g : Fence). g.timeline) fs) = λ i j d less within. h (suc i) (suc j) d (omega arith) (omega arith) in (
      λ k d low.
          let is = get_or-map (λ (g : Fence). g.timeline) fs k d 0 low in
          let long = length-map fs (λ (g : Fence). g.timeline) in
          let above : f.timeline < get_or (map (λ (g : Fence). g.timeline) fs) k 0 = h 0 (suc k) 0 (omega arith) (omega arith) in
          rw is at above,
      Rising-pairs fs rest,
    )

pub Rising-from : (fs : List Fence) → HasRisingTimelines fs → Rising fs
Rising-from fs h = Rising-pairs fs (AllPairs-from_increasing _ h)

pub with_fence-Rising : (fs : List Fence) (g : Fence) → Rising fs → Rising (with_fence fs g)
with_fence-Rising [] g h = (All-nil (λ (x : Fence). g.timeline < x.timeline), tt)
with_fence-Rising (f ∷ fs) g h =
    let again = with_fence-Rising fs g h.1 in
    with_fence-cases Rising f fs g
    (λ lower. (with_fence-All (λ (x : Fence). f.timeline < x.timeline) fs g h.0 (ltb-true _ _ lower), again))
    (λ same low. (All-weaker (λ (x : Fence). f.timeline < x.timeline) (λ (x : Fence). g.timeline < x.timeline) (λ x above. omega arith) fs h.0, h.1))
    (λ same low. h)
    (λ low. (
      All-cons (λ (x : Fence). g.timeline < x.timeline) f fs low
          (All-weaker (λ (x : Fence). f.timeline < x.timeline) (λ (x : Fence). g.timeline < x.timeline) (λ x above. omega arith) fs h.0),
      h,
    ))

-- the pending fences
pub pending-All : (P : Fence → Type 0) (fs : List Fence) → All P fs → All P (pending_of fs)
pending-All P [] all = all
pending-All P (f ∷ fs) all =
    let rest = pending-All P fs (All-tail P f fs all) in
    elim (cases_Bool (is_pending f)) [
      | inl is ↦ rw is (All-cons P f (pending_of fs) (All-head P f fs all) rest)
      | inr not ↦ rw not rest
    ]

pub pending-Rising : (fs : List Fence) → Rising fs → Rising (pending_of fs)
pending-Rising [] h = h
pending-Rising (f ∷ fs) h =
    let rest = pending-Rising fs h.1 in
    elim (cases_Bool (is_pending f)) [
      | inl is ↦ rw is (pending-All (λ (g : Fence). f.timeline < g.timeline) fs h.0, rest)
      | inr not ↦ rw not rest
    ]

pub fold-All : (P : Fence → Type 0) (gs fs : List Fence) → All P fs → All P gs → All P (fold with_fence fs gs)
fold-All P [] fs all more = all
fold-All P (g ∷ gs) fs all more = fold-All P gs (with_fence fs g) (with_fence-All P fs g all (All-head P g gs more)) (All-tail P g gs more)

pub fold-Rising : (gs fs : List Fence) → Rising fs → Rising (fold with_fence fs gs)
fold-Rising [] fs h = h
fold-Rising (g ∷ gs) fs h = fold-Rising gs (with_fence fs g) (with_fence-Rising fs g h)

pub merged-All : (P : Fence → Type 0) (fs gs : List Fence) → All P fs → All P gs → All P (merged fs gs)
merged-All P fs gs all more = fold-All P (pending_of gs) (pending_of fs) (pending-All P fs all) (pending-All P gs more)

pub merged-Rising : (fs gs : List Fence) → Rising fs → Rising (merged fs gs)
merged-Rising fs gs h = fold-Rising (pending_of gs) (pending_of fs) (pending-Rising fs h)

-- the entries that they represent above a reach
abbrev pub entry_in : Fence → Entry
entry_in f = as_entry (point_in f)

module _ (reach : List ℕ) where
  joined : (a b c d : List Entry) → AgreesAbove reach a b → AgreesAbove reach c d → AgreesAbove reach (a ++ c) (b ++ d)
  joined a b c d h k = AgreesAbove-append {reach = reach} {a = a} {b = b} {c = c} {d = d} h k

  agrees-cons : (e : Entry) (es fs : List Entry) → AgreesAbove reach es fs → AgreesAbove reach (e ∷ es) (e ∷ fs)
  agrees-cons e es fs h = joined (e ∷ []) (e ∷ []) (es) (fs) (AgreesAbove-refl reach (e ∷ [])) h

  agrees-swap : (e d : Entry) (es : List Entry) → AgreesAbove reach (e ∷ d ∷ es) (d ∷ e ∷ es)
  agrees-swap e d es = joined (e ∷ d ∷ []) (d ∷ e ∷ []) (es) (es) (AgreesAbove-comm reach (e ∷ []) (d ∷ [])) (AgreesAbove-refl reach es)

  contains-first : (e : Entry) (es : List Entry) → Contains (e ∷ es) e
  contains-first e es = (0, omega arith, refl)

  pub with_fence-agrees : (fs : List Fence) (g : Fence) → AgreesAbove reach (entries_in (with_fence fs g)) (entry_in g ∷ entries_in fs)
  with_fence-agrees [] g = AgreesAbove-refl reach (entry_in g ∷ [])
  with_fence-agrees (f ∷ fs) g =
      let again = with_fence-agrees fs g in
      let swapped = agrees-swap (entry_in f) (entry_in g) (entries_in fs) in
      with_fence-cases (λ hs. AgreesAbove reach (entries_in hs) (entry_in g ∷ entry_in f ∷ entries_in fs)) f fs g
      (λ lower. AgreesAbove-trans (agrees-cons (entry_in f) (entries_in (with_fence fs g)) (entry_in g ∷ entries_in fs) again) swapped)
      (λ same low. AgreesAbove-sym (AgreesAbove-trans (AgreesAbove-sym swapped)
      (AgreesAbove-covered reach (entry_in g) (entry_in f) (entry_in g ∷ entries_in fs) (contains-first (entry_in g) (entries_in fs)) (sym same, omega arith, omega arith))))
      (λ same low. AgreesAbove-sym (AgreesAbove-covered reach (entry_in f) (entry_in g) (entry_in f ∷ entries_in fs) (contains-first (entry_in f) (entries_in fs)) (same, omega arith, low)))
      (λ low. AgreesAbove-refl reach (entry_in g ∷ entry_in f ∷ entries_in fs))

  pub fold-agrees : (gs fs : List Fence) → AgreesAbove reach (entries_in (fold with_fence fs gs)) (entries_in gs ++ entries_in fs)
  fold-agrees [] fs = AgreesAbove-refl reach (entries_in fs)
  fold-agrees (g ∷ gs) fs =
      AgreesAbove-trans (fold-agrees gs (with_fence fs g))
      (AgreesAbove-trans (joined (entries_in gs) (entries_in gs) (entries_in (with_fence fs g)) (entry_in g ∷ entries_in fs) (AgreesAbove-refl reach (entries_in gs)) (with_fence-agrees fs g))
      (AgreesAbove-trans (AgreesAbove-comm reach (entries_in gs) (entry_in g ∷ entries_in fs))
      (agrees-cons (entry_in g) (entries_in fs ++ entries_in gs) (entries_in gs ++ entries_in fs) (AgreesAbove-comm reach (entries_in fs) (entries_in gs)))))

  pub pending-agrees : (fs : List Fence) → All (IsReachedUnlessPending reach) fs → AgreesAbove reach (entries_in (pending_of fs)) (entries_in fs)
  pending-agrees [] all = AgreesAbove-refl reach []
  pending-agrees (f ∷ fs) all =
      let rest = pending-agrees fs (All-tail (IsReachedUnlessPending reach) f fs all) in
      elim (cases_Bool (is_pending f)) [
        | inl is ↦ rw is (agrees-cons (entry_in f) (entries_in (pending_of fs)) (entries_in fs) rest)
        | inr not ↦
            rw not (AgreesAbove-trans rest (AgreesAbove-sym (AgreesAbove-signalled reach (entry_in f) (entries_in fs)
            (All-head (IsReachedUnlessPending reach) f fs all not))))
      ]

  pub merged-agrees : (fs gs : List Fence) → All (IsReachedUnlessPending reach) fs → All (IsReachedUnlessPending reach) gs → AgreesAbove reach (entries_in (merged fs gs)) (entries_in fs ++ entries_in gs)
  merged-agrees fs gs all more =
      AgreesAbove-trans (fold-agrees (pending_of gs) (pending_of fs))
      (AgreesAbove-trans (AgreesAbove-comm reach (entries_in (pending_of gs)) (entries_in (pending_of fs)))
      (joined (entries_in (pending_of fs)) (entries_in fs) (entries_in (pending_of gs)) (entries_in gs) (pending-agrees fs all) (pending-agrees gs more)))
