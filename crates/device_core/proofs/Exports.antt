-- The fences of an export, and the result of a test.
use Rattle.std.proofs.Common.{◌≡◌, ℕ, ◌≤◌, ◌⊎◌, ◌↔◌, refl, sym, ap, ◌∙◌, List, [], ◌∷◌, cond, Option, None, Some, Bool, true, false, not, ◌&&◌, ◌||◌, if◌then◌else◌, nat_eq, nat_lt, inl, inr, arith, append-nil}
use Rattle.std.specs.Prelude.{fold, IsTrue}
use Rattle.std.specs.List.{filter_map, cons_option}
use Rattle.std.proofs.lemmas.Bool.{cases_Bool, ltb-true, ltb-false, lt-leb, le-leb}
use Rattle.std.proofs.lemmas.List.Elements.{All-cons, All-nil}
use Rattle.point_core.specs.declared.entry.Entry.{Entry}
use Rattle.point_core.specs.declared.entry.Usage.{Usage}
use Rattle.point_core.specs.Usage.{usage_number}
use Rattle.point_core.specs.Reach.{value_at, is_reached}
use Rattle.point_core.specs.Agreement.{AgreesAbove, IsReached, all_reached, as_entry, later, pending, top}
use Rattle.point_core.proofs.Agreement.{AgreesAbove-append, AgreesAbove-refl, AgreesAbove-same, AgreesAbove-signalled, AgreesAbove-sym, AgreesAbove-trans}
use Rattle.point_core.proofs.Reached.{all_reached-IsReached}
use Rattle.device_core.specs.declared.buffer_fence.BufferFence.{BufferFence}
use Rattle.device_core.specs.declared.fence.Fence.{Fence}
use Rattle.device_core.specs.declared.fence.Timeline.{Timeline}
use Rattle.device_core.specs.theorem.Fences.{HasRisingTimelines, entries_in, with_fence}
use Rattle.device_core.specs.theorem.Buffers.{AreWaiting, IsReachOf, IsWaitingAt, at_usage, entries_of, entry_of, fence_waiting, is_within, none_waits, waiting_fence, waits_in}
use Rattle.device_core.proofs.Placed.{Rising-is, fold-All, fold-Rising, fold-agrees}
use Rattle.device_core.proofs.Putting.{Contains-first, IsReachOf-tail, not_waiting-reached}

-- at each usage the exported entries have the top that the entries have at the export's usage
pub top-at_usage : (usage : Usage) (es : List Entry) (any ctx : ℕ) → top (at_usage usage es) any ctx ≡ top es (usage_number usage) ctx
top-at_usage usage [] any ctx = refl
top-at_usage usage (e ∷ es) any ctx = go (cases_Bool (is_within usage e)) (top-at_usage usage es any ctx)
  where
    go : (is_within usage e ≡ true) ⊎ (is_within usage e ≡ false) → top (at_usage usage es) any ctx ≡ top es (usage_number usage) ctx → top (at_usage usage (e ∷ es)) any ctx ≡ top (e ∷ es) (usage_number usage) ctx
    go (inl within) rest = rw (within, le-leb 0 any (omega arith)) (ap (λ t. cond (nat_eq e.point.ctx ctx) (later e.point.value t) t) rest)
    go (inr weaker) rest = rw weaker rest

-- so entries that agree export the same
pub AgreesAbove-at_usage : (reach : List ℕ) (usage : Usage) (es fs : List Entry) → AgreesAbove reach es fs → AgreesAbove reach (at_usage usage es) (at_usage usage fs)
AgreesAbove-at_usage reach usage es fs h = record {
  tops = λ any ctx. ap (pending (value_at reach ctx)) (top-at_usage usage es any ctx) ∙ h.tops (usage_number usage) ctx ∙ sym (ap (pending (value_at reach ctx)) (top-at_usage usage fs any ctx));
}

module _ (timelines : ℕ → Option Timeline) (usage : Usage) where
  -- the waiting fences are those that are not reached
  pub waiting-agrees : (hs : List BufferFence) (reach : List ℕ) → IsReachOf timelines hs reach → AgreesAbove reach (entries_in (filter_map (waiting_fence timelines usage) hs)) (at_usage usage (entries_of hs))
  waiting-agrees [] reach of = AgreesAbove-refl reach []
  waiting-agrees (h ∷ hs) reach of = go (cases_Bool (is_within usage (entry_of h))) (timelines h.timeline) refl (waiting-agrees hs reach (IsReachOf-tail timelines h hs reach of))
    where
      reached : (o : Option Timeline) → timelines h.timeline ≡ o → waits_in o h.value ≡ false → h.value ≤ value_at reach h.timeline
      reached o is not = not_waiting-reached timelines (h ∷ hs) reach h of (Contains-first h hs) (ap (λ p. waits_in p h.value) is ∙ not)

      left : (o : Option Timeline) → timelines h.timeline ≡ o → waits_in o h.value ≡ false → AgreesAbove reach (entries_in (filter_map (waiting_fence timelines usage) hs)) (at_usage usage (entries_of hs)) → AgreesAbove reach (entries_in (filter_map (waiting_fence timelines usage) hs)) (as_entry (entry_of h).point ∷ at_usage usage (entries_of hs))
      left o is not rest = AgreesAbove-trans rest (AgreesAbove-sym (AgreesAbove-signalled reach (as_entry (entry_of h).point) (at_usage usage (entries_of hs)) (reached o is not)))

      some : (t : Timeline) → timelines h.timeline ≡ Some t → (nat_lt t.value h.value ≡ true) ⊎ (nat_lt t.value h.value ≡ false) → AgreesAbove reach (entries_in (filter_map (waiting_fence timelines usage) hs)) (at_usage usage (entries_of hs)) → AgreesAbove reach (entries_in (cons_option (fence_waiting h.timeline h.value (Some t)) (filter_map (waiting_fence timelines usage) hs))) (as_entry (entry_of h).point ∷ at_usage usage (entries_of hs))
      some t is (inl waits) rest = rw waits (AgreesAbove-append (AgreesAbove-refl reach (as_entry (entry_of h).point ∷ [])) rest)
      some t is (inr not) rest = rw not (left (Some t) is not rest)

      go : (is_within usage (entry_of h) ≡ true) ⊎ (is_within usage (entry_of h) ≡ false) → (o : Option Timeline) → timelines h.timeline ≡ o → AgreesAbove reach (entries_in (filter_map (waiting_fence timelines usage) hs)) (at_usage usage (entries_of hs)) → AgreesAbove reach (entries_in (filter_map (waiting_fence timelines usage) (h ∷ hs))) (at_usage usage (entries_of (h ∷ hs)))
      go (inr weaker) o is rest = rw weaker rest
      go (inl within) None is rest = rw (within, is) (left None is refl rest)
      go (inl within) (Some t) is rest = rw (within, is) (some t is (cases_Bool (nat_lt t.value h.value)) rest)

  -- each exported fence waits
  waiting-each : (h : BufferFence) (gs : List Fence) (within : Bool) (o : Option Timeline) → timelines h.timeline ≡ o → AreWaiting timelines gs → AreWaiting timelines (cons_option (if within then fence_waiting h.timeline h.value o else None) gs)
  waiting-each h gs false o is rest = rest
  waiting-each h gs true None is rest = rest
  waiting-each h gs true (Some t) is rest = elim (cases_Bool (nat_lt t.value h.value)) [
    | inl waits ↦ rw waits (All-cons (λ (f : Fence). IsWaitingAt f (timelines f.timeline)) _ gs (rw is (ltb-true t.value h.value waits, refl)) rest)
    | inr not ↦ rw not rest
  ]

  pub waiting-waits : (hs : List BufferFence) → AreWaiting timelines (filter_map (waiting_fence timelines usage) hs)
  waiting-waits [] = All-nil (λ (f : Fence). IsWaitingAt f (timelines f.timeline))
  waiting-waits (h ∷ hs) = waiting-each h (filter_map (waiting_fence timelines usage) hs) (is_within usage (entry_of h)) (timelines h.timeline) refl (waiting-waits hs)

  -- an export of these fences
  pub exported-agrees : (hs : List BufferFence) (reach : List ℕ) → IsReachOf timelines hs reach → AgreesAbove reach (entries_in (fold with_fence [] (filter_map (waiting_fence timelines usage) hs))) (at_usage usage (entries_of hs))
  exported-agrees hs reach of =
      let gs = filter_map (waiting_fence timelines usage) hs in
      AgreesAbove-trans (fold-agrees reach gs [])
      (AgreesAbove-trans (AgreesAbove-same reach (append-nil (entries_in gs))) (waiting-agrees hs reach of))

  pub exported-rising : (hs : List BufferFence) → HasRisingTimelines (fold with_fence [] (filter_map (waiting_fence timelines usage) hs))
  exported-rising hs = Rising-is _ (fold-Rising (filter_map (waiting_fence timelines usage) hs) [] tt)

  pub exported-waits : (hs : List BufferFence) → AreWaiting timelines (fold with_fence [] (filter_map (waiting_fence timelines usage) hs))
  exported-waits hs = fold-All (λ (f : Fence). IsWaitingAt f (timelines f.timeline)) (filter_map (waiting_fence timelines usage) hs) [] (All-nil (λ (f : Fence). IsWaitingAt f (timelines f.timeline))) (waiting-waits hs)

  -- a test finds whether all are reached
  waits_in-reached : (hs : List BufferFence) (reach : List ℕ) (h : BufferFence) (o : Option Timeline) → IsReachOf timelines (h ∷ hs) reach → timelines h.timeline ≡ o → not (waits_in o h.value) ≡ is_reached reach (entry_of h).point
  waits_in-reached hs reach h None of is = sym (le-leb h.value (value_at reach h.timeline) (of.closed h (Contains-first h hs) is))
  waits_in-reached hs reach h (Some t) of is =
      let value = of.values h.timeline t is in
      elim (cases_Bool (nat_lt t.value h.value)) [
        | inl waits ↦ let above = ltb-true t.value h.value waits in rw waits (sym (lt-leb h.value (value_at reach h.timeline) (omega arith)))
        | inr not ↦ let low = ltb-false t.value h.value not in rw not (sym (le-leb h.value (value_at reach h.timeline) (omega arith)))
      ]

  none_waits-reached : (hs : List BufferFence) (reach : List ℕ) → IsReachOf timelines hs reach → none_waits timelines usage hs ≡ all_reached reach (usage_number usage) (entries_of hs)
  none_waits-reached [] reach of = refl
  none_waits-reached (h ∷ hs) reach of =
      ap (λ b. (not (is_within usage (entry_of h)) || b) && none_waits timelines usage hs) (waits_in-reached hs reach h (timelines h.timeline) of refl)
      ∙ ap (λ b. (not (is_within usage (entry_of h)) || is_reached reach (entry_of h).point) && b) (none_waits-reached hs reach (IsReachOf-tail timelines h hs reach of))

  pub tested : (hs : List BufferFence) (reach : List ℕ) (found : Bool) → found ≡ none_waits timelines usage hs → IsReachOf timelines hs reach → IsTrue found ↔ IsReached (entries_of hs) (usage_number usage) reach
  tested hs reach found is of =
      let same = is ∙ none_waits-reached hs reach of in
      let means = all_reached-IsReached reach (usage_number usage) (entries_of hs) in
      (λ yes. means.0 (sym same ∙ yes), λ all. same ∙ means.1 all)
