-- The pending fences of a file are the latest pending points among all that were put into it.
use Rattle.std.proofs.Common.{◌≡◌, ◌≢◌, ℕ, ◌+◌, ◌-◌, ◌<◌, ◌≤◌, zero, suc, inl, inr, true, refl, sym, ap, ◌∙◌, List, [], ◌∷◌, length, map, Option, None, Some, option_map, All, if◌then◌else◌, arith}
use Rattle.std.specs.List.{filter_map, cons_option, range_with_len}
use Rattle.std.proofs.lemmas.Bool.{cases_eq, false≢true, lt-ltb, ltb-true}
use Rattle.std.proofs.lemmas.List.FromFn.{length-map-range_with_len}
use Rattle.std.proofs.lemmas.List.Elements.{All-nil, All-cons, All-head, All-tail, All-filter, All-weaker, filter_passes}
use Rattle.point_core.specs.declared.entry.Entry.{Entry}
use Rattle.point_core.specs.declared.entry.Usage.{Usage}
use Rattle.point_core.specs.declared.entry.Point.{Point}
use Rattle.point_core.specs.Usage.{usage_number}
use Rattle.point_core.specs.Reach.{value_at}
use Rattle.point_core.specs.Agreement.{AgreesAbove, later, pending, pending_top, point_of, top}
use Rattle.point_core.proofs.Agreement.{AgreesAbove-trans}
use Rattle.point_core.proofs.Latest.{applies-true, applies-other}
use Rattle.point_core.proofs.Listings.{filter_map-range_same}
use Rattle.device_core.specs.declared.buffer_fence.BufferFence.{BufferFence}
use Rattle.device_core.specs.declared.fence.Fence.{Fence}
use Rattle.device_core.specs.declared.fence.Timeline.{Timeline}
use Rattle.device_core.specs.theorem.Buffers.{IsWaitingAt, at_usage, exported}
use Rattle.device_core.specs.theorem.BufferWorld.{AreBufferFences, HasGivenTimelines}
use Rattle.device_core.specs.theorem.Fences.{entries_in, is_pending, pending_of, point_in}
use Rattle.device_core.specs.theorem.History.{reach_of, reached_by}
use Rattle.device_core.specs.theorem.Listing.{pending_points}
use Rattle.device_core.specs.Sound.{AreFences, IsFence, is_above}
use Rattle.device_core.specs.theorem.State.{Objects}
use Rattle.device_core.proofs.Placed.{Rising, Rising-from, entry_in, pending-Rising, pending-agrees}
use Rattle.device_core.proofs.Exports.{exported-waits, top-at_usage}
use Rattle.device_core.proofs.BufferSteps.{export-keeps}
use Rattle.device_core.proofs.Sound.{fences-reached, value_at-reach_of}

-- fences of rising timelines, and the top of each timeline
top-none : (fs : List Fence) (t : ℕ) → All (λ (f : Fence). f.timeline ≢ t) fs → top (entries_in fs) 0 t ≡ None
top-none [] t apart = refl
top-none (f ∷ fs) t apart =
    ap (λ b. if b then later f.value (top (entries_in fs) 0 t) else top (entries_in fs) 0 t) (applies-other (entry_in f) 0 t (All-head (λ (g : Fence). g.timeline ≢ t) f fs apart))
    ∙ top-none fs t (All-tail (λ (g : Fence). g.timeline ≢ t) f fs apart)

top-first : (f : Fence) (fs : List Fence) → All (λ (g : Fence). f.timeline < g.timeline) fs → top (entries_in (f ∷ fs)) 0 f.timeline ≡ Some f.value
top-first f fs above =
    ap (λ b. if b then later f.value (top (entries_in fs) 0 f.timeline) else top (entries_in fs) 0 f.timeline) (applies-true (entry_in f) 0 f.timeline (omega arith) refl)
    ∙ ap (later f.value) (top-none fs f.timeline (All-weaker (λ (g : Fence). f.timeline < g.timeline) (λ (g : Fence). g.timeline ≢ f.timeline) (λ g high is. omega arith) fs above))

top-rest : (f : Fence) (fs : List Fence) (t : ℕ) → f.timeline ≢ t → top (entries_in (f ∷ fs)) 0 t ≡ top (entries_in fs) 0 t
top-rest f fs t apart = ap (λ b. if b then later f.value (top (entries_in fs) 0 t) else top (entries_in fs) 0 t) (applies-other (entry_in f) 0 t apart)

abbrev listed : List ℕ → List Fence → ℕ → Option Point
listed reach fs t = option_map (point_of t) (pending_top reach (entries_in fs) 0 t)

abbrev Within : ℕ → ℕ → Fence → Type 0
Within a n f = (a ≤ f.timeline) × (f.timeline < a + n)

listed-first : (reach : List ℕ) (f : Fence) (fs : List Fence) (a : ℕ) → f.timeline ≡ a → value_at reach f.timeline < f.value → All (λ (g : Fence). f.timeline < g.timeline) fs → listed reach (f ∷ fs) a ≡ Some (point_in f)
listed-first reach f fs a is high above =
    ap (listed reach (f ∷ fs)) (sym is)
    ∙ ap (λ t. option_map (point_of f.timeline) (pending (value_at reach f.timeline) t)) (top-first f fs above)
    ∙ ap (λ b. option_map (point_of f.timeline) (if b then Some f.value else None)) (lt-ltb (value_at reach f.timeline) f.value high)

listed-none : (reach : List ℕ) (fs : List Fence) (a : ℕ) → All (λ (f : Fence). f.timeline ≢ a) fs → listed reach fs a ≡ None
listed-none reach fs a apart = ap (λ t. option_map (point_of a) (pending (value_at reach a) t)) (top-none fs a apart)

listed-rest : (reach : List ℕ) (f : Fence) (fs : List Fence) (t : ℕ) → f.timeline ≢ t → listed reach (f ∷ fs) t ≡ listed reach fs t
listed-rest reach f fs t apart = ap (λ o. option_map (point_of t) (pending (value_at reach t) o)) (top-rest f fs t apart)

listed-itself : (reach : List ℕ) (n a : ℕ) (fs : List Fence) → All (Within a n) fs → Rising fs → All (λ (f : Fence). value_at reach f.timeline < f.value) fs → filter_map (listed reach fs) (range_with_len a n) ≡ map point_in fs
listed-itself reach zero a [] within rising high = refl
listed-itself reach zero a (f ∷ fs) within rising high =
    let has = All-head (Within a 0) f fs within in
    absurd (omega arith)
listed-itself reach (suc n) a [] within rising high = listed-itself reach n (a + 1) [] (All-nil (Within (a + 1) n)) rising high
listed-itself reach (suc n) a (f ∷ fs) within rising high =
    let above = rising.0 in
    let has = All-head (Within a (suc n)) f fs within in
    let rest = All-tail (Within a (suc n)) f fs within in
    let rest_later : All (Within (a + 1) n) fs = λ k d low. let bounds = rest k d low in let over = above k d low in (omega arith, omega arith) in
    elim (cases_eq f.timeline a) [
      | inl is ↦
          ap (λ o. cons_option o (filter_map (listed reach (f ∷ fs)) (range_with_len (a + 1) n))) (listed-first reach f fs a is (All-head (λ (g : Fence). value_at reach g.timeline < g.value) f fs high) above)
          ∙ ap (λ ps. point_in f ∷ ps) (
          filter_map-range_same (listed reach (f ∷ fs)) (listed reach fs) (a + 1) n (λ k low up. listed-rest reach f fs k (λ same. omega arith))
          ∙ listed-itself reach n (a + 1) fs rest_later rising.1 (All-tail (λ (g : Fence). value_at reach g.timeline < g.value) f fs high))
      | inr apart ↦
          ap (λ o. cons_option o (filter_map (listed reach (f ∷ fs)) (range_with_len (a + 1) n))) (listed-none reach (f ∷ fs) a (All-cons (λ (g : Fence). g.timeline ≢ a) f fs apart (All-weaker (λ (g : Fence). f.timeline < g.timeline) (λ (g : Fence). g.timeline ≢ a) (λ g over same. omega arith) fs above)))
          ∙ listed-itself reach n (a + 1) (f ∷ fs) (All-cons (Within (a + 1) n) f fs (omega arith, omega arith) rest_later) rising high
    ]

-- pending fences of a device
above-reach : (d : Objects) (f : Fence) (o : Option Timeline) → d.timelines f.timeline ≡ o → 1 ≤ f.timeline → f.timeline < d.next → is_above o f.value ≡ true → value_at (reach_of d) f.timeline < f.value
above-reach d f None is low high above = absurd (false≢true above)
above-reach d f (Some t) is low high above =
    let value = value_at-reach_of d f.timeline low high ∙ ap reached_by is in
    let over = ltb-true t.value f.value above in
    omega arith

pub fence-above : (d : Objects) (f : Fence) → IsFence d f → is_pending f ≡ true → value_at (reach_of d) f.timeline < f.value
fence-above d f is waits = above-reach d f (d.timelines f.timeline) refl is.numbered is.given (sym is.pending ∙ waits)

fences-above : (d : Objects) (fs : List Fence) → All (IsFence d) fs → All (λ (f : Fence). is_pending f ≡ true) fs → All (λ (f : Fence). value_at (reach_of d) f.timeline < f.value) fs
fences-above d [] each waits = All-nil (λ (f : Fence). value_at (reach_of d) f.timeline < f.value)
fences-above d (f ∷ fs) each waits =
    let P : Fence → Type 0 = λ g. is_pending g ≡ true in
    All-cons (λ (g : Fence). value_at (reach_of d) g.timeline < g.value) f fs
    (fence-above d f (All-head (IsFence d) f fs each) (All-head P f fs waits))
    (fences-above d fs (All-tail (IsFence d) f fs each) (All-tail P f fs waits))

fences-within : (d : Objects) (n : ℕ) (fs : List Fence) → n + 1 ≡ d.next → All (IsFence d) fs → All (Within 1 n) fs
fences-within d n fs is each = All-weaker (IsFence d) (Within 1 n) (λ f its. let low = its.numbered in let high = its.given in (low, omega arith)) fs each

pub points-are : (d : Objects) (fs : List Fence) (put : List Entry) → 1 ≤ d.next → Rising fs → All (IsFence d) fs → All (λ (f : Fence). is_pending f ≡ true) fs → AgreesAbove (reach_of d) (entries_in fs) put → map point_in fs ≡ pending_points (reach_of d) put 0
points-are d fs put first rising each waits agrees =
    let reach = reach_of d in
    let long : length reach ≡ d.next - 1 = length-map-range_with_len (λ n. reached_by (d.timelines n)) 1 (d.next - 1) in
    let next : length reach + 1 ≡ d.next = omega arith in
    sym (listed-itself reach (length reach) 1 fs (fences-within d (length reach) fs next each) rising (fences-above d fs each waits))
    ∙ filter_map-range_same (listed reach fs) (λ t. option_map (point_of t) (pending_top reach put 0 t)) 1 (length reach) (λ t low high. ap (option_map (point_of t)) (agrees.tops 0 t))

-- the pending fences of a file
pub file-pending : (d : Objects) (fs : List Fence) (put : List Entry) → 1 ≤ d.next → AreFences d fs → AgreesAbove (reach_of d) (entries_in fs) put → map point_in (pending_of fs) ≡ pending_points (reach_of d) put 0
file-pending d fs put first are agrees =
    points-are d (pending_of fs) put first (pending-Rising fs (Rising-from fs are.rising)) (All-filter is_pending (IsFence d) fs are.each) (filter_passes is_pending fs)
    (AgreesAbove-trans (pending-agrees (reach_of d) fs (fences-reached d fs are)) agrees)

-- the fences that an export lists
waiting-pending : (f : Fence) (o : Option Timeline) → IsWaitingAt f o → is_pending f ≡ true
waiting-pending f None is = absurd is
waiting-pending f (Some t) is = ap is_pending is.1

pub exported-pending : (timelines : ℕ → Option Timeline) (usage : Usage) (hs : List BufferFence) → All (λ (f : Fence). is_pending f ≡ true) (exported timelines usage hs)
exported-pending timelines usage hs =
    All-weaker (λ (f : Fence). IsWaitingAt f (timelines f.timeline)) (λ (f : Fence). is_pending f ≡ true) (λ f is. waiting-pending f (timelines f.timeline) is) (exported timelines usage hs) (exported-waits timelines usage hs)

pub export-pending : (d : Objects) (usage : Usage) (hs : List BufferFence) (put : List Entry) → 1 ≤ d.next → HasGivenTimelines d → AreBufferFences d hs → AgreesAbove (reach_of d) (entries_in (exported d.timelines usage hs)) (at_usage usage put) → map point_in (exported d.timelines usage hs) ≡ pending_points (reach_of d) put (usage_number usage)
export-pending d usage hs put first given all agrees =
    let fs = exported d.timelines usage hs in
    let are = export-keeps d usage hs all in
    let reach = reach_of d in
    points-are d fs (at_usage usage put) first (Rising-from fs are.rising) are.each
    (exported-pending d.timelines usage hs) agrees
    ∙ filter_map-range_same (λ t. option_map (point_of t) (pending_top reach (at_usage usage put) 0 t)) (λ t. option_map (point_of t) (pending_top reach put (usage_number usage) t)) 1 (length reach)
    (λ t low high. ap (λ o. option_map (point_of t) (pending (value_at reach t) o)) (top-at_usage usage put 0 t))
