-- Buffers of a device: the properties that requests keep.
use Rattle.std.proofs.Common.{◌≡◌, ℕ, ◌⊎◌, ◌↔◌, zero, suc, refl, sym, ap, ◌∙◌, List, [], ◌∷◌, ◌++◌, length, map, filter, cond, Option, None, Some, Bool, true, false, if◌then◌else◌, nat_eq, nat_le, nat_lt, inl, inr, arith, All}
use Rattle.std.specs.Prelude.{fold}
use Rattle.std.specs.List.{filter_map, cons_option}
use Rattle.std.proofs.lemmas.Bool.{cases_Bool, cases_lt}
use Rattle.std.proofs.lemmas.List.{map-append}
use Rattle.std.proofs.lemmas.List.Elements.{All-cons, All-nil, All-head, All-tail, All-contains, All-filter}
use Rattle.point_core.specs.declared.entry.Entry.{Entry}
use Rattle.point_core.specs.declared.entry.Usage.{Usage}
use Rattle.point_core.specs.declared.entry.Usage.TheVariants.{Kernel, Write, Read, Bookkeep}
use Rattle.point_core.specs.Usage.{usage_number}
use Rattle.point_core.specs.Reach.{value_at}
use Rattle.point_core.specs.Agreement.{AgreesAbove, IsReached, covers, later, pending, top}
use Rattle.point_core.proofs.Agreement.{AgreesAbove-append, AgreesAbove-same, AgreesAbove-sym, AgreesAbove-trans}
use Rattle.point_core.proofs.Reached.{IsReached-AgreesAbove}
use Rattle.device_core.specs.declared.buffer_fence.BufferFence.{BufferFence}
use Rattle.device_core.specs.declared.fence.Fence.{Fence}
use Rattle.device_core.specs.declared.fence.Timeline.{Timeline}
use Rattle.device_core.specs.theorem.Fences.{are_signalled, entries_in, is_pending, pending_of}
use Rattle.device_core.specs.theorem.State.{Objects}
use Rattle.device_core.specs.theorem.History.{reach_of, reached_by}
use Rattle.device_core.specs.Sound.{AreFences, IsFence, is_above}
use Rattle.device_core.specs.theorem.Buffers.{BufferState, IsReachOf, at_usage, entries_of, entry_of, exported, fence_waiting, has_grown, import_into, imported, is_waiting, is_within, none_waits, put_as, waiting_fence, with_buffer_fence}
use Rattle.device_core.specs.theorem.BufferWorld.{AreBufferFences, HasGivenTimelines, IsBufferFence, put_with}
use Rattle.device_core.proofs.Placed.{fold-All, pending-agrees}
use Rattle.device_core.proofs.Sound.{fences-reached, value_at-reach_of}
use Rattle.device_core.proofs.Putting.{import-agrees}
use Rattle.device_core.proofs.Exports.{AgreesAbove-at_usage, exported-agrees, exported-rising, tested}

-- the reach of a device is its timelines'
pub value_of : (d : Objects) (n : ℕ) (t : Timeline) → HasGivenTimelines d → d.timelines n ≡ Some t → value_at (reach_of d) n ≡ t.value
value_of d zero t h is = let none = h.none in absurd (cc)
value_of d (suc n) t h is = elim (cases_lt (suc n) d.next) [
  | inl below ↦ value_at-reach_of d (suc n) (omega arith) below ∙ ap reached_by is
  | inr past ↦ let none = h.given (suc n) past in absurd (cc)
]

pub reach-is : (d : Objects) (hs : List BufferFence) → HasGivenTimelines d → AreBufferFences d hs → IsReachOf d.timelines hs (reach_of d)
reach-is d hs h all = record {
  values = λ n t is. value_of d n t h is;
  closed = λ g among none.
      let known = All-contains (IsBufferFence d.next) hs g all among in
      let value = value_at-reach_of d g.timeline known.numbered known.given ∙ ap reached_by none in
      let fits = known.fits in
      rw value fits;
}

-- an import keeps a property of each fence
pub with-All : (P : BufferFence → Type 0) (hs : List BufferFence) (g : BufferFence) → All P hs → P g → All P (with_buffer_fence hs g)
with-All P [] g all here = All-cons P g [] here all
with-All P (h ∷ hs) g all here =
    let rest = with-All P hs g (All-tail P h hs all) here in
    elim (cases_Bool (covers (entry_of g) (entry_of h))) [
      | inl is ↦ rw is (All-cons P g hs here (All-tail P h hs all))
      | inr not ↦ rw not (All-cons P h (with_buffer_fence hs g) (All-head P h hs all) rest)
    ]

put_each-All : (P : BufferFence → Type 0) (put hs : List BufferFence) → All P hs → All P put → All P (fold with_buffer_fence hs put)
put_each-All P [] hs all more = all
put_each-All P (g ∷ gs) hs all more = put_each-All P gs (with_buffer_fence hs g) (with-All P hs g all (All-head P g gs more)) (All-tail P g gs more)

pub import-All : (P : BufferFence → Type 0) (timelines : ℕ → Option Timeline) (usage : Usage) (fs : List Fence) (b : BufferState) → All P b.fences → All P (imported usage fs) → All P (import_into timelines usage fs b).fences
import-All P timelines usage fs b all more = go (cases_Bool (are_signalled fs)) (cases_Bool (has_grown b.left (length fs) b.fences))
  where
    go : (are_signalled fs ≡ true) ⊎ (are_signalled fs ≡ false) → (has_grown b.left (length fs) b.fences ≡ true) ⊎ (has_grown b.left (length fs) b.fences ≡ false) → All P (import_into timelines usage fs b).fences
    go (inl is) grown = rw is all
    go (inr not) (inl grown) = rw (not, grown) (put_each-All P (imported usage fs) (filter (is_waiting timelines) b.fences) (All-filter (is_waiting timelines) P b.fences all) more)
    go (inr not) (inr small) = rw (not, small) (put_each-All P (imported usage fs) b.fences all more)

imported-fences : (d : Objects) (usage : Usage) (fs : List Fence) → All (IsFence d) fs → AreBufferFences d (imported usage fs)
imported-fences d usage [] all = All-nil (IsBufferFence d.next)
imported-fences d usage (f ∷ fs) all =
    let first = All-head (IsFence d) f fs all in
    let rest = imported-fences d usage fs (All-tail (IsFence d) f fs all) in
    let here : IsBufferFence d.next (put_as usage f) = record { numbered = first.numbered; given = first.given; fits = first.fits } in
    elim (cases_Bool (is_pending f)) [
      | inl is ↦ rw is (All-cons (IsBufferFence d.next) (put_as usage f) (imported usage fs) here rest)
      | inr not ↦ rw not rest
    ]

pub import-keeps : (d : Objects) (usage : Usage) (fs : List Fence) (b : BufferState) → AreBufferFences d b.fences → AreFences d fs → AreBufferFences d (import_into d.timelines usage fs b).fences
import-keeps d usage fs b all more = import-All (IsBufferFence d.next) d.timelines usage fs b all (imported-fences d usage fs more.each)

-- the fences that an import puts in
weakest : (usage : Usage) → nat_le (usage_number usage) 3 ≡ true
weakest Kernel = refl
weakest Write = refl
weakest Read = refl
weakest Bookkeep = refl

top-put_with : (usage : Usage) (es : List Entry) (any ctx : ℕ) → top (put_with usage es) any ctx ≡ (if nat_le (usage_number usage) any then top es 3 ctx else None)
top-put_with usage [] any ctx = elim (cases_Bool (nat_le (usage_number usage) any)) [
  | inl is ↦ rw is refl
  | inr not ↦ rw not refl
]
top-put_with usage (e ∷ es) any ctx = go (cases_Bool (nat_le (usage_number usage) any)) (top-put_with usage es any ctx)
  where
    go : (nat_le (usage_number usage) any ≡ true) ⊎ (nat_le (usage_number usage) any ≡ false) → top (put_with usage es) any ctx ≡ (if nat_le (usage_number usage) any then top es 3 ctx else None) → top (put_with usage (e ∷ es)) any ctx ≡ (if nat_le (usage_number usage) any then top (e ∷ es) 3 ctx else None)
    go (inl is) rest =
        let again : top (put_with usage es) any ctx ≡ top es 3 ctx = rest ∙ ap (λ b. if b then top es 3 ctx else None) is in
        rw (is, weakest e.usage) (ap (λ t. cond (nat_eq e.point.ctx ctx) (later e.point.value t) t) again)
    go (inr not) rest = rw not (rest ∙ ap (λ b. if b then top es 3 ctx else None) not)

pending-if : (value : ℕ) (b : Bool) (s t : Option ℕ) → pending value s ≡ pending value t → pending value (if b then s else None) ≡ pending value (if b then t else None)
pending-if value true s t is = is
pending-if value false s t is = refl

AgreesAbove-put_with : (reach : List ℕ) (usage : Usage) (es fs : List Entry) → AgreesAbove reach es fs → AgreesAbove reach (put_with usage es) (put_with usage fs)
AgreesAbove-put_with reach usage es fs h = record {
  tops = λ any ctx.
      ap (pending (value_at reach ctx)) (top-put_with usage es any ctx)
      ∙ pending-if (value_at reach ctx) (nat_le (usage_number usage) any) (top es 3 ctx) (top fs 3 ctx) (h.tops 3 ctx)
      ∙ sym (ap (pending (value_at reach ctx)) (top-put_with usage fs any ctx));
}

entries-put_as : (usage : Usage) (fs : List Fence) → entries_of (map (put_as usage) fs) ≡ put_with usage (entries_in fs)
entries-put_as usage [] = refl
entries-put_as usage (f ∷ fs) = ap (λ es. entry_of (put_as usage f) ∷ es) (entries-put_as usage fs)

-- a buffer agrees with the entries put into it, and with those put into the imported file
pub import-step : (d : Objects) (usage : Usage) (fs : List Fence) (b : BufferState) (put more : List Entry) → HasGivenTimelines d → AreBufferFences d b.fences → AreFences d fs → AgreesAbove (reach_of d) (entries_of b.fences) put → AgreesAbove (reach_of d) (entries_in fs) more → AgreesAbove (reach_of d) (entries_of (import_into d.timelines usage fs b).fences) (put ++ put_with usage more)
import-step d usage fs b put more h all each left right =
    let reach = reach_of d in
    let pending_ones = pending-agrees reach fs (fences-reached d fs each) in
    let imported_ones = AgreesAbove-trans (AgreesAbove-same reach (entries-put_as usage (pending_of fs))) (AgreesAbove-put_with reach usage (entries_in (pending_of fs)) more (AgreesAbove-trans pending_ones right)) in
    AgreesAbove-trans (import-agrees d.timelines usage fs b reach (reach-is d b.fences h all))
    (AgreesAbove-trans (AgreesAbove-same reach (map-append entry_of b.fences (imported usage fs))) (AgreesAbove-append left imported_ones))

-- an exported file agrees with the entries of the buffer at its usage
pub export-step : (d : Objects) (usage : Usage) (hs : List BufferFence) (put : List Entry) → HasGivenTimelines d → AreBufferFences d hs → AgreesAbove (reach_of d) (entries_of hs) put → AgreesAbove (reach_of d) (entries_in (exported d.timelines usage hs)) (at_usage usage put)
export-step d usage hs put h all agrees =
    AgreesAbove-trans (exported-agrees d.timelines usage hs (reach_of d) (reach-is d hs h all)) (AgreesAbove-at_usage (reach_of d) usage (entries_of hs) put agrees)

waiting-fence : (d : Objects) (h : BufferFence) (gs : List Fence) (within : Bool) (o : Option Timeline) → IsBufferFence d.next h → d.timelines h.timeline ≡ o → All (IsFence d) gs → All (IsFence d) (cons_option (if within then fence_waiting h.timeline h.value o else None) gs)
waiting-fence d h gs false o known is rest = rest
waiting-fence d h gs true None known is rest = rest
waiting-fence d h gs true (Some t) known is rest = elim (cases_Bool (nat_lt t.value h.value)) [
  | inl waits ↦
      rw waits (All-cons (IsFence d) _ gs (record {
        numbered = known.numbered;
        given = known.given;
        fits = known.fits;
        pending = sym (ap (λ p. is_above p h.value) is ∙ waits);
      }) rest)
  | inr not ↦ rw not rest
]

waiting-fences : (d : Objects) (usage : Usage) (hs : List BufferFence) → AreBufferFences d hs → All (IsFence d) (filter_map (waiting_fence d.timelines usage) hs)
waiting-fences d usage [] all = All-nil (IsFence d)
waiting-fences d usage (h ∷ hs) all =
    waiting-fence d h (filter_map (waiting_fence d.timelines usage) hs) (is_within usage (entry_of h)) (d.timelines h.timeline)
    (All-head (IsBufferFence d.next) h hs all) refl
    (waiting-fences d usage hs (All-tail (IsBufferFence d.next) h hs all))

pub export-keeps : (d : Objects) (usage : Usage) (hs : List BufferFence) → AreBufferFences d hs → AreFences d (exported d.timelines usage hs)
export-keeps d usage hs all = record {
  rising = exported-rising d.timelines usage hs;
  each = fold-All (IsFence d) (filter_map (waiting_fence d.timelines usage) hs) [] (All-nil (IsFence d)) (waiting-fences d usage hs all);
}

-- a test finds whether all entries are reached
pub test-step : (d : Objects) (usage : Usage) (hs : List BufferFence) (put : List Entry) → HasGivenTimelines d → AreBufferFences d hs → AgreesAbove (reach_of d) (entries_of hs) put → (none_waits d.timelines usage hs ≡ true) ↔ IsReached put (usage_number usage) (reach_of d)
test-step d usage hs put h all agrees =
    let means = tested d.timelines usage hs (reach_of d) (none_waits d.timelines usage hs) refl (reach-is d hs h all) in
    (λ is. IsReached-AgreesAbove (usage_number usage) agrees (means.0 is), λ reached. means.1 (IsReached-AgreesAbove (usage_number usage) (AgreesAbove-sym agrees) reached))
