-- Two lists of points by rising context, read as one.
use Rattle.std.proofs.Common.{◌≡◌, ℕ, ◌+◌, ◌-◌, ◌<◌, ◌≤◌, refl, sym, ap, ◌∙◌, subst, List, [], ◌∷◌, ◌++◌, length, length-append, append_assoc, append-nil, map, arith, All}
use Rattle.std.proofs.lemmas.List.Elements.{All-nil, All-cons, All-head, All-tail, All-weaker, All-push, All-map, Contains-append_right}
use Rattle.point_core.specs.declared.context.TheConstants.{CONTEXTS}
use Rattle.point_core.specs.declared.entry.Point.{Point}
use Rattle.point_core.specs.declared.entry.Entry.{Entry}
use Rattle.point_core.specs.Reach.{value_at}
use Rattle.point_core.specs.Agreement.{AgreesAbove, as_entry, as_entries, listing, merged, HasContexts, HasRisingContexts, AllAbove}
use Rattle.point_core.specs.TwoLists.{AllFrom, IsFirstOf}
use Rattle.point_core.proofs.Agreement.{IsStrictlyIncreasing-cons, AgreesAbove-refl, AgreesAbove-sym, AgreesAbove-trans, AgreesAbove-same, AgreesAbove-append, AgreesAbove-comm, AgreesAbove-covered, AgreesAbove-signalled, as_entries-append, listing-AgreesAbove}
use Rattle.point_core.proofs.Canonical.{IsStrictlyIncreasing-tail, above-first, listing-itself}
use Rattle.point_core.proofs.Listings.{HasContexts-nil, HasContexts-put}

abbrev has_context : Entry → Type 0
has_context e = (1 ≤ e.point.ctx) × (e.point.ctx ≤ CONTEXTS)

HasRisingContexts-rest : (p : Point) (ps : List Point) → HasRisingContexts (p ∷ ps) → HasRisingContexts ps
HasRisingContexts-rest p ps rising = IsStrictlyIncreasing-tail p.ctx (map (λ (q : Point). q.ctx) ps) rising

-- the rest of a rising list starts at a later context
AllFrom-rest : (p : Point) (ps : List Point) → HasRisingContexts (p ∷ ps) → AllFrom (p.ctx + 1) ps
AllFrom-rest p ps rising = All-weaker (λ (q : Point). p.ctx < q.ctx) (λ (q : Point). p.ctx + 1 ≤ q.ctx) (λ q above. omega arith) ps (above-first p ps rising)

pub AllFrom-nil : (ctx : ℕ) → AllFrom ctx []
AllFrom-nil ctx = All-nil (λ (q : Point). ctx ≤ q.ctx)

-- a list that starts at a later context
pub AllFrom-later : (ctx : ℕ) (q : Point) (qs : List Point) → ctx < q.ctx → HasRisingContexts (q ∷ qs) → AllFrom (ctx + 1) (q ∷ qs)
AllFrom-later ctx q qs above rising =
    All-cons (λ (r : Point). ctx + 1 ≤ r.ctx) q qs (omega arith)
    (All-weaker (λ (r : Point). q.ctx < r.ctx) (λ (r : Point). ctx + 1 ≤ r.ctx) (λ r over. omega arith) qs (above-first q qs rising))

-- the first list begins before the second
pub IsFirstOf-left : (p : Point) (ps qs : List Point) → (1 ≤ p.ctx) × (p.ctx ≤ CONTEXTS) → (HasRisingContexts qs → AllFrom (p.ctx + 1) qs) → IsFirstOf p ps qs (p ∷ ps) qs
IsFirstOf-left p ps qs has above = record {
  agrees = λ reach. AgreesAbove-refl reach (as_entry p ∷ (as_entries ps ++ as_entries qs));
  first = λ ctx left right. All-head (λ (q : Point). ctx ≤ q.ctx) p ps left;
  later = λ left right. ((HasRisingContexts-rest p ps left, right), (AllFrom-rest p ps left, above right));
  context = has;
  contexts = λ left right. (All-cons has_context (as_entry p) (as_entries ps) has left, right);
  shorter = omega arith;
}

-- the lists exchanged
IsFirstOf-turned : {p : Point} {left right ps qs : List Point} → IsFirstOf p left right ps qs → IsFirstOf p right left qs ps
IsFirstOf-turned {p} {left} {right} {ps} {qs} h = record {
  agrees = λ reach.
      AgreesAbove-trans (AgreesAbove-append (AgreesAbove-refl reach (as_entry p ∷ [])) (AgreesAbove-comm reach (as_entries right) (as_entries left)))
      (AgreesAbove-trans (h.agrees reach) (AgreesAbove-comm reach (as_entries ps) (as_entries qs)));
  first = λ ctx there here. h.first ctx here there;
  later = λ there here. let both = h.later here there in ((both.0.1, both.0.0), (both.1.1, both.1.0));
  context = h.context;
  contexts = λ there here. let both = h.contexts here there in (both.1, both.0);
  shorter = omega (arith, h.shorter);
}

pub IsFirstOf-right : (q : Point) (ps qs : List Point) → (1 ≤ q.ctx) × (q.ctx ≤ CONTEXTS) → (HasRisingContexts ps → AllFrom (q.ctx + 1) ps) → IsFirstOf q ps qs ps (q ∷ qs)
IsFirstOf-right q ps qs has above = IsFirstOf-turned (IsFirstOf-left q qs ps has above)

-- both begin in one context: the later point covers the other
pub IsFirstOf-left_covers : (p q : Point) (ps qs : List Point) → (1 ≤ p.ctx) × (p.ctx ≤ CONTEXTS) → p.ctx ≡ q.ctx → q.value ≤ p.value → IsFirstOf p ps qs (p ∷ ps) (q ∷ qs)
IsFirstOf-left_covers p q ps qs has same low = record {
  agrees = λ reach.
      AgreesAbove-trans (AgreesAbove-comm reach (as_entries (p ∷ ps)) (as_entries qs))
      (AgreesAbove-trans
      (AgreesAbove-sym (AgreesAbove-covered reach (as_entry p) (as_entry q) (as_entries qs ++ as_entries (p ∷ ps)) (Contains-append_right (as_entries qs) (as_entries (p ∷ ps)) (as_entry p) (0, omega arith, refl)) (same, omega arith, low)))
      (AgreesAbove-comm reach (as_entries (q ∷ qs)) (as_entries (p ∷ ps))));
  first = λ ctx left right. All-head (λ (r : Point). ctx ≤ r.ctx) p ps left;
  later = λ left right. ((HasRisingContexts-rest p ps left, HasRisingContexts-rest q qs right), (AllFrom-rest p ps left, rw same (AllFrom-rest q qs right)));
  context = has;
  contexts = λ left right. (All-cons has_context (as_entry p) (as_entries ps) has left, All-cons has_context (as_entry q) (as_entries qs) (rw same at has) right);
  shorter = omega arith;
}

pub IsFirstOf-right_covers : (p q : Point) (ps qs : List Point) → (1 ≤ q.ctx) × (q.ctx ≤ CONTEXTS) → p.ctx ≡ q.ctx → p.value ≤ q.value → IsFirstOf q ps qs (p ∷ ps) (q ∷ qs)
IsFirstOf-right_covers p q ps qs has same low = IsFirstOf-turned (IsFirstOf-left_covers q p qs ps has (sym same) low)

HasRisingContexts-push : (ps : List Point) (p : Point) (from : ℕ) → HasRisingContexts ps → All (λ (q : Point). q.ctx < from) ps → from ≤ p.ctx → HasRisingContexts (ps ++ p ∷ [])
HasRisingContexts-push [] p from rising below high = IsStrictlyIncreasing-cons p.ctx [] (All-nil (λ y. p.ctx < y)) (λ k low. absurd (omega arith))
HasRisingContexts-push (q ∷ ps) p from rising below high =
    let here = All-head (λ (r : Point). r.ctx < from) q ps below in
    let over = All-push (λ (r : Point). q.ctx < r.ctx) ps p (above-first q ps rising) (omega arith) in
    IsStrictlyIncreasing-cons q.ctx (map (λ (r : Point). r.ctx) (ps ++ p ∷ [])) (All-map (λ y. q.ctx < y) (λ (r : Point). r.ctx) (ps ++ p ∷ []) over)
    (HasRisingContexts-push ps p from (HasRisingContexts-rest q ps rising) (All-tail (λ (r : Point). r.ctx < from) q ps below) high)

-- the points so far, whose contexts rise and are below the next, are the pending points of all but the rests
pub record HasMerged (reach : List ℕ) (all others points left right : List Point) : Type 0 where
  pub agrees : AgreesAbove reach (as_entries points ++ (as_entries left ++ as_entries right)) (as_entries all ++ as_entries others)
  pub rising : HasRisingContexts points
  pub high : AllAbove reach points
  pub within : HasContexts (as_entries points)
  pub next : ℕ
  pub below : All (λ (p : Point). p.ctx < next) points
  pub few : length points ≤ next - 1
  pub risings : HasRisingContexts left × HasRisingContexts right
  pub from : AllFrom next left × AllFrom next right
  pub contexts : HasContexts (as_entries left) → HasContexts (as_entries right) → HasContexts (as_entries all) × HasContexts (as_entries others)
  pub room : length points + (length left + length right) ≤ length all + length others

All-from_0 : (ps : List Point) → AllFrom 0 ps
All-from_0 [] = All-nil (λ (q : Point). 0 ≤ q.ctx)
All-from_0 (p ∷ ps) = All-cons (λ (q : Point). 0 ≤ q.ctx) p ps (omega arith) (All-from_0 ps)

pub HasMerged-none : (reach : List ℕ) (all others : List Point) → HasRisingContexts all → HasRisingContexts others → HasMerged reach all others [] all others
HasMerged-none reach all others left right = record {
  agrees = AgreesAbove-refl reach (as_entries all ++ as_entries others);
  rising = λ k low. absurd (omega arith);
  high = All-nil (λ (p : Point). value_at reach p.ctx < p.value);
  within = HasContexts-nil;
  next = 0;
  below = All-nil (λ (p : Point). p.ctx < 0);
  few = omega arith;
  risings = (left, right);
  from = (All-from_0 all, All-from_0 others);
  contexts = λ here there. (here, there);
  room = omega arith;
}

module _ {reach : List ℕ} {all others points left right : List Point} (p : Point) (ps qs : List Point) (before : HasMerged reach all others points left right) (first : IsFirstOf p ps qs left right) where
  above : before.next ≤ p.ctx
  above = first.first before.next before.from.0 before.from.1

  agrees-before : AgreesAbove reach (as_entries points ++ (as_entry p ∷ (as_entries ps ++ as_entries qs))) (as_entries all ++ as_entries others)
  agrees-before = AgreesAbove-trans (AgreesAbove-append (AgreesAbove-refl reach (as_entries points)) (first.agrees reach)) before.agrees

  -- there is room for one more
  pub HasMerged-room : (length points < CONTEXTS) × (length points < length all + length others)
  HasMerged-room = (omega (arith, above, before.few, first.context), omega (arith, before.room, first.shorter))

  -- the first point is pending
  pub HasMerged-push : value_at reach p.ctx < p.value → HasMerged reach all others (points ++ p ∷ []) ps qs
  HasMerged-push high =
      let entries = as_entries-append points (p ∷ []) in
      let later = first.later before.risings.0 before.risings.1 in
      let more = length-append points (p ∷ []) in
      record {
        agrees = AgreesAbove-trans (AgreesAbove-same reach (ap (λ es. es ++ (as_entries ps ++ as_entries qs)) entries ∙ append_assoc (as_entries points) (as_entry p ∷ []) (as_entries ps ++ as_entries qs))) agrees-before;
        rising = HasRisingContexts-push points p before.next before.rising before.below above;
        high = All-push (λ (q : Point). value_at reach q.ctx < q.value) points p before.high high;
        within = subst HasContexts (sym entries) (HasContexts-put (as_entries points) p before.within first.context.0 first.context.1);
        next = p.ctx + 1;
        below = All-push (λ (q : Point). q.ctx < p.ctx + 1) points p (All-weaker (λ (q : Point). q.ctx < before.next) (λ (q : Point). q.ctx < p.ctx + 1) (λ q low. omega (arith, above)) points before.below) (omega arith);
        few = omega (arith, above, more, before.few, first.context);
        risings = later.0;
        from = later.1;
        contexts = λ here there. let both = first.contexts here there in before.contexts both.0 both.1;
        room = omega (arith, more, before.room, first.shorter);
      }

  -- it has been reached
  pub HasMerged-skip : p.value ≤ value_at reach p.ctx → HasMerged reach all others points ps qs
  HasMerged-skip reached =
      let later = first.later before.risings.0 before.risings.1 in
      record {
        agrees = AgreesAbove-trans (AgreesAbove-append (AgreesAbove-refl reach (as_entries points)) (AgreesAbove-sym (AgreesAbove-signalled reach (as_entry p) (as_entries ps ++ as_entries qs) reached))) agrees-before;
        rising = before.rising;
        high = before.high;
        within = before.within;
        next = p.ctx + 1;
        below = All-weaker (λ (q : Point). q.ctx < before.next) (λ (q : Point). q.ctx < p.ctx + 1) (λ q low. omega (arith, above)) points before.below;
        few = omega (arith, above, before.few);
        risings = later.0;
        from = later.1;
        contexts = λ here there. let both = first.contexts here there in before.contexts both.0 both.1;
        room = omega (arith, before.room, first.shorter);
      }

-- both lists are empty
pub merged-HasMerged : {reach : List ℕ} {all others points : List Point} → HasMerged reach all others points [] [] → points ≡ merged reach all others
merged-HasMerged {reach} {all} {others} {points} h =
    sym (listing-itself reach points h.rising h.within h.high)
    ∙ ap (λ es. listing es 0 reach) (sym (append-nil (as_entries points)))
    ∙ listing-AgreesAbove 0 h.agrees
    ∙ ap (λ es. listing es 0 reach) (sym (as_entries-append all others))

pub HasContexts-HasMerged : {reach : List ℕ} {all others points : List Point} → HasMerged reach all others points [] [] → HasContexts (as_entries all) × HasContexts (as_entries others)
HasContexts-HasMerged h = h.contexts HasContexts-nil HasContexts-nil
