-- The tables of buffers, after every history.
use Rattle.std.proofs.Common.{◌≡◌, ℕ, ◌*◌, ◌≤◌, ◌⊎◌, inl, inr, Bool, true, false, not, ◌&&◌, ◌||◌, refl, sym, ap, ◌∙◌, subst, List, [], ◌∷◌, length, map, filter, max, All, Contains, arith}
use Rattle.std.specs.Prelude.{⊤, Option, None, Some, is_some, fold, Result, Ok, Err}
use Rattle.std.specs.Cmp.{IsEquivalence}
use Rattle.std.specs.List.{AllByRecursion, IsDistinct}
use Rattle.std.specs.Set.{is_member, unique_keys}
use Rattle.std.proofs.lemmas.Bool.{and_from, and_parts, and_right, cases_Bool, cases_eq, false≢true, lt-leb, ltb-true}
use Rattle.std.proofs.lemmas.List.{length-map}
use Rattle.std.proofs.lemmas.List.Elements.{All-cons, All-nil, All-head, All-tail, All-contains, All-filter, All-weaker, filter_passes}
use Rattle.std.proofs.lemmas.Map.Made.{All-is_member, length-le_from_is_member}
use Rattle.point_core.specs.declared.entry.Entry.{Entry}
use Rattle.point_core.specs.declared.entry.Usage.{Usage}
use Rattle.point_core.specs.Usage.{usage_number}
use Rattle.point_core.specs.Agreement.{covers}
use Rattle.point_core.specs.Reach.{is_reached, value_at}
use Rattle.point_core.proofs.Reached.{covers-Covers}
use Rattle.device_core.specs.declared.buffer.TheConstants.{GROWTH, UNTRIMMED}
use Rattle.device_core.specs.declared.buffer_fence.BufferFence.{BufferFence}
use Rattle.device_core.specs.declared.fence.Fence.{Fence}
use Rattle.device_core.specs.declared.fence.Timeline.{Timeline}
use Rattle.device_core.specs.declared.errno.Errno.{Errno}
use Rattle.device_core.specs.declared.request.Request.{Request}
use Rattle.device_core.specs.declared.request.Request.TheVariants as request
use Rattle.device_core.specs.theorem.Buffers.{BufferState, empty_buffer, entry_of, has_grown, import_into, import_usage, imported, is_waiting, put_as, waits_in, with_buffer_fence}
use Rattle.device_core.specs.theorem.BufferWorld.{HasGivenTimelines}
use Rattle.device_core.specs.theorem.Fences.{are_signalled, is_pending}
use Rattle.device_core.specs.theorem.History.{AreAccepted, HasHistory, World, empty_world, reach_of, world_after, world_from}
use Rattle.device_core.specs.theorem.Memory.{AreTrimmed, is_same_entry, most_pending, pending_put}
use Rattle.device_core.specs.theorem.Request.{with_at}
use Rattle.device_core.specs.Sound.{IsFence, IsSound, is_above}
use Rattle.device_core.specs.theorem.State.{DeviceState, FileState, Objects, import_of}
use Rattle.device_core.proofs.BufferSteps.{value_of, with-All}
use Rattle.device_core.proofs.Listed.{AreAmong, HasListed, HasListed-after, HasListed-empty, kept}
use Rattle.device_core.proofs.Memory.{or_cases, or_left, or_right}
use Rattle.device_core.proofs.Putting.{HasRoom, HasRoom-import}
use Rattle.device_core.proofs.Sound.{with_at-same, with_at-other}
use Rattle.device_core.proofs.Stepping.{same_Some, None≢Some, given_timelines, IsSound-after, IsSound-empty}

-- an entry that covers another, and a third that covers it
covers-trans : (a b c : Entry) → covers a b ≡ true → covers b c ≡ true → covers a c ≡ true
covers-trans a b c left right =
    let one = (covers-Covers a b).0 left in
    let two = (covers-Covers b c).0 right in
    (covers-Covers a c).1 (one.0 ∙ two.0, omega (arith, one.1, two.1), omega (arith, one.2, two.2))

covers-refl : (a : Entry) → covers a a ≡ true
covers-refl a = (covers-Covers a a).1 (refl, omega arith, omega arith)

-- entries that are the same
abbrev AreSame : Entry → Entry → Type 0
AreSame a b = (a.point.ctx ≡ b.point.ctx) × (usage_number a.usage ≡ usage_number b.usage) × (a.point.value ≡ b.point.value)

same-parts : (a b : Entry) → is_same_entry a b ≡ true → AreSame a b
same-parts a b is =
    let both = and_parts (covers a b) (covers b a) is in
    let there = (covers-Covers a b).0 both.0 in
    let back = (covers-Covers b a).0 both.1 in
    (there.0, omega (arith, there.1, back.1), omega (arith, there.2, back.2))

same-alike : (a b c : Entry) → AreSame a b → is_same_entry a c ≡ is_same_entry b c
same-alike a b c h = rw (h.0, h.1, h.2) refl

and_turned : (a b : Bool) → (a && b) ≡ (b && a)
and_turned true true = refl
and_turned true false = refl
and_turned false true = refl
and_turned false false = refl

is_same_entry-equiv : IsEquivalence is_same_entry
is_same_entry-equiv = record {
  refl = λ a. and_from (covers a a) (covers a a) (covers-refl a) (covers-refl a);
  symm = λ a b. and_turned (covers a b) (covers b a);
  congr = λ a b c is. same-alike a b c (same-parts a b is);
}

-- the entries of a list
member-alike : (es : List Entry) (a b : Entry) → is_same_entry a b ≡ true → is_member is_same_entry es a ≡ is_member is_same_entry es b
member-alike [] a b same = refl
member-alike (e ∷ es) a b same =
    ap (λ x. x || is_member is_same_entry es a) (same-alike a b e (same-parts a b same))
    ∙ ap (λ x. is_same_entry b e || x) (member-alike es a b same)

member-unique : (es : List Entry) (a : Entry) → is_member is_same_entry es a ≡ true → is_member is_same_entry (unique_keys is_same_entry es) a ≡ true
member-unique [] a there = there
member-unique (e ∷ es) a there = go (cases_Bool (is_member is_same_entry es e)) (or_cases (is_same_entry a e) (is_member is_same_entry es a) there) (member-unique es a)
  where
    go : (is_member is_same_entry es e ≡ true) ⊎ (is_member is_same_entry es e ≡ false) → (is_same_entry a e ≡ true) ⊎ (is_member is_same_entry es a ≡ true) → (is_member is_same_entry es a ≡ true → is_member is_same_entry (unique_keys is_same_entry es) a ≡ true) → is_member is_same_entry (unique_keys is_same_entry (e ∷ es)) a ≡ true
    go (inl again) (inl same) rest = rw again (rest (member-alike es a e same ∙ again))
    go (inl again) (inr later) rest = rw again (rest later)
    go (inr only) (inl same) rest = rw only (or_left (is_same_entry a e) (is_member is_same_entry (unique_keys is_same_entry es) a) same)
    go (inr only) (inr later) rest = rw only (or_right (is_same_entry a e) (is_member is_same_entry (unique_keys is_same_entry es) a) (rest later))

-- no fence of a table covers one before it
abbrev Apart : List BufferFence → Type 0
Apart [] = ⊤
Apart (h ∷ hs) = All (λ (g : BufferFence). covers (entry_of g) (entry_of h) ≡ false) hs × Apart hs

still-apart : (h g k : BufferFence) → covers (entry_of g) (entry_of h) ≡ true → covers (entry_of k) (entry_of h) ≡ false → covers (entry_of k) (entry_of g) ≡ false
still-apart h g k covered apart = elim (cases_Bool (covers (entry_of k) (entry_of g))) [
  | inl is ↦ absurd (false≢true (sym apart ∙ covers-trans (entry_of k) (entry_of g) (entry_of h) is covered))
  | inr not ↦ not
]

with-Apart : (hs : List BufferFence) (g : BufferFence) → Apart hs → Apart (with_buffer_fence hs g)
with-Apart [] g h = (All-nil (λ (k : BufferFence). covers (entry_of k) (entry_of g) ≡ false), tt)
with-Apart (x ∷ hs) g h = go (cases_Bool (covers (entry_of g) (entry_of x))) (with-Apart hs g h.1)
  where
    go : (covers (entry_of g) (entry_of x) ≡ true) ⊎ (covers (entry_of g) (entry_of x) ≡ false) → Apart (with_buffer_fence hs g) → Apart (with_buffer_fence (x ∷ hs) g)
    go (inl is) rest = rw is (All-weaker (λ (k : BufferFence). covers (entry_of k) (entry_of x) ≡ false) (λ (k : BufferFence). covers (entry_of k) (entry_of g) ≡ false) (λ k apart. still-apart x g k is apart) hs h.0, h.1)
    go (inr not) rest = rw not (with-All (λ (k : BufferFence). covers (entry_of k) (entry_of x) ≡ false) hs g h.0 not, rest)

put_each-Apart : (put hs : List BufferFence) → Apart hs → Apart (fold with_buffer_fence hs put)
put_each-Apart [] hs h = h
put_each-Apart (g ∷ gs) hs h = put_each-Apart gs (with_buffer_fence hs g) (with-Apart hs g h)

filter-Apart : (p : BufferFence → Bool) (hs : List BufferFence) → Apart hs → Apart (filter p hs)
filter-Apart p [] h = tt
filter-Apart p (x ∷ hs) h = elim (cases_Bool (p x)) [
  | inl is ↦ rw is (All-filter p (λ (k : BufferFence). covers (entry_of k) (entry_of x) ≡ false) hs h.0, filter-Apart p hs h.1)
  | inr not ↦ rw not (filter-Apart p hs h.1)
]

-- so its entries are different
differs : (x : BufferFence) (hs : List BufferFence) → All (λ (g : BufferFence). covers (entry_of g) (entry_of x) ≡ false) hs → AllByRecursion (λ e. is_same_entry (entry_of x) e ≡ false) (map entry_of hs)
differs x [] all = tt
differs x (g ∷ gs) all =
    let P : BufferFence → Type 0 = λ k. covers (entry_of k) (entry_of x) ≡ false in
    (and_right (covers (entry_of x) (entry_of g)) (covers (entry_of g) (entry_of x)) (All-head P g gs all), differs x gs (All-tail P g gs all))

distinct : (hs : List BufferFence) → Apart hs → IsDistinct is_same_entry (map entry_of hs)
unfolding IsDistinct
distinct [] h = tt
distinct (x ∷ hs) h = (differs x hs h.0, distinct hs h.1)

-- and there are no more of them than different ones among those that have them all
all-members : (hs : List BufferFence) (es : List Entry) → All (λ (h : BufferFence). Contains es (entry_of h)) hs → (q : Entry) → is_member is_same_entry (map entry_of hs) q ≡ true → is_member is_same_entry es q ≡ true
all-members [] es all q there = absurd (false≢true there)
all-members (h ∷ hs) es all q there =
    let P : BufferFence → Type 0 = λ k. Contains es (entry_of k) in
    elim (or_cases (is_same_entry q (entry_of h)) (is_member is_same_entry (map entry_of hs) q) there) [
      | inl same ↦
          member-alike es q (entry_of h) same
          ∙ All-contains (λ e. is_member is_same_entry es e ≡ true) es (entry_of h) (All-is_member is_same_entry-equiv es) (All-head P h hs all)
      | inr later ↦ all-members hs es (All-tail P h hs all) q later
    ]

few-apart : (hs : List BufferFence) (es : List Entry) → Apart hs → All (λ (h : BufferFence). Contains es (entry_of h)) hs → length hs ≤ length (unique_keys is_same_entry es)
few-apart hs es apart all =
    let few = length-le_from_is_member is_same_entry-equiv (map entry_of hs) (unique_keys is_same_entry es) (distinct hs apart) (λ q there. member-unique es q (all-members hs es all q there)) in
    subst (λ n. n ≤ length (unique_keys is_same_entry es)) (length-map hs entry_of) few

-- a waiting fence is pending
above-waits : (o : Option Timeline) (value : ℕ) → is_above o value ≡ waits_in o value
above-waits None value = refl
above-waits (Some t) value = refl

waits-pending : (d : Objects) (h : BufferFence) (o : Option Timeline) → HasGivenTimelines d → d.timelines h.timeline ≡ o → waits_in o h.value ≡ true → not (is_reached (reach_of d) (entry_of h).point) ≡ true
waits-pending d h None given is waits = absurd (false≢true waits)
waits-pending d h (Some t) given is waits =
    let value = value_of d h.timeline t given is in
    let above = ltb-true t.value h.value waits in
    ap not (lt-leb h.value (value_at (reach_of d) h.timeline) (omega arith))

imported-waits : (d : Objects) (usage : Usage) (fs : List Fence) → All (IsFence d) fs → All (λ (h : BufferFence). is_waiting d.timelines h ≡ true) (imported usage fs)
imported-waits d usage [] all = All-nil (λ (h : BufferFence). is_waiting d.timelines h ≡ true)
imported-waits d usage (f ∷ fs) all =
    let P : BufferFence → Type 0 = λ h. is_waiting d.timelines h ≡ true in
    let first = All-head (IsFence d) f fs all in
    let rest = imported-waits d usage fs (All-tail (IsFence d) f fs all) in
    elim (cases_Bool (is_pending f)) [
      | inl is ↦
          let here : P (put_as usage f) = sym (above-waits (d.timelines f.timeline) f.value) ∙ sym first.pending ∙ is in
          rw is (All-cons P (put_as usage f) (imported usage fs) here rest)
      | inr not ↦ rw not rest
    ]

put_each-waits : (d : Objects) (put hs : List BufferFence) → All (λ (h : BufferFence). is_waiting d.timelines h ≡ true) hs → All (λ (h : BufferFence). is_waiting d.timelines h ≡ true) put → All (λ (h : BufferFence). is_waiting d.timelines h ≡ true) (fold with_buffer_fence hs put)
put_each-waits d [] hs all more = all
put_each-waits d (g ∷ gs) hs all more =
    let P : BufferFence → Type 0 = λ h. is_waiting d.timelines h ≡ true in
    put_each-waits d gs (with_buffer_fence hs g) (with-All P hs g all (All-head P g gs more)) (All-tail P g gs more)

-- distinct fences that wait are no more than the pending entries that were put in
both-in : (d : Objects) (put : List Entry) (hs : List BufferFence) → HasGivenTimelines d → All (λ (h : BufferFence). is_waiting d.timelines h ≡ true) hs → AreAmong put hs → All (λ (h : BufferFence). Contains (filter (λ e. not (is_reached (reach_of d) e.point)) put) (entry_of h)) hs
both-in d put [] given waits among = All-nil (λ (h : BufferFence). Contains (filter (λ e. not (is_reached (reach_of d) e.point)) put) (entry_of h))
both-in d put (h ∷ hs) given waits among =
    let P : BufferFence → Type 0 = λ g. is_waiting d.timelines g ≡ true in
    let Q : BufferFence → Type 0 = λ g. Contains put (entry_of g) in
    All-cons (λ (g : BufferFence). Contains (filter (λ e. not (is_reached (reach_of d) e.point)) put) (entry_of g)) h hs
    (kept (λ e. not (is_reached (reach_of d) e.point)) put (entry_of h) (waits-pending d h (d.timelines h.timeline) given refl (All-head P h hs waits)) (All-head Q h hs among))
    (both-in d put hs given (All-tail P h hs waits) (All-tail Q h hs among))

-- the invariant of each table
abbrev IsTable : ℕ → BufferState → Type 0
IsTable most b = Apart b.fences × HasRoom b × (b.left ≤ most)

abbrev HasTables : World → (ℕ → ℕ) → Type 0
HasTables w most = (n : ℕ) (b : BufferState) → w.objects.buffers n ≡ Some b → IsTable (most n) b

IsTable-more : (less more : ℕ) (b : BufferState) → less ≤ more → IsTable less b → IsTable more b
IsTable-more less more b low h = (h.0, h.1, omega (arith, low, h.2))

import-Apart : (timelines : ℕ → Option Timeline) (usage : Usage) (fs : List Fence) (b : BufferState) → Apart b.fences → Apart (import_into timelines usage fs b).fences
import-Apart timelines usage fs b h = go (cases_Bool (are_signalled fs)) (cases_Bool (has_grown b.left (length fs) b.fences))
  where
    go : (are_signalled fs ≡ true) ⊎ (are_signalled fs ≡ false) → (has_grown b.left (length fs) b.fences ≡ true) ⊎ (has_grown b.left (length fs) b.fences ≡ false) → Apart (import_into timelines usage fs b).fences
    go (inl is) grown = rw is h
    go (inr not) (inl grown) = rw (not, grown) (put_each-Apart (imported usage fs) (filter (is_waiting timelines) b.fences) (filter-Apart (is_waiting timelines) b.fences h))
    go (inr not) (inr small) = rw (not, small) (put_each-Apart (imported usage fs) b.fences h)

import-left : (d : Objects) (usage : Usage) (fs : List Fence) (b : BufferState) (put : List Entry) (most : ℕ) → HasGivenTimelines d → All (IsFence d) fs → Apart b.fences → AreAmong put (import_into d.timelines usage fs b).fences → b.left ≤ most
    → (import_into d.timelines usage fs b).left ≤ max most (length (unique_keys is_same_entry (filter (λ e. not (is_reached (reach_of d) e.point)) put)))
import-left d usage fs b put most given all apart among low = go (cases_Bool (are_signalled fs)) (cases_Bool (has_grown b.left (length fs) b.fences)) among
  where
    go : (are_signalled fs ≡ true) ⊎ (are_signalled fs ≡ false) → (has_grown b.left (length fs) b.fences ≡ true) ⊎ (has_grown b.left (length fs) b.fences ≡ false) → AreAmong put (import_into d.timelines usage fs b).fences
        → (import_into d.timelines usage fs b).left ≤ max most (length (unique_keys is_same_entry (filter (λ e. not (is_reached (reach_of d) e.point)) put)))
    go (inl is) grown there = rw is (omega (arith, low))
    go (inr pending) (inl grown) there =
        let waiting = filter (is_waiting d.timelines) b.fences in
        let fences = fold with_buffer_fence waiting (imported usage fs) in
        let its : AreAmong put fences = rw (pending, grown) at there in
        let waits = put_each-waits d (imported usage fs) waiting (filter_passes (is_waiting d.timelines) b.fences) (imported-waits d usage fs all) in
        let few = few-apart fences (filter (λ e. not (is_reached (reach_of d) e.point)) put) (put_each-Apart (imported usage fs) waiting (filter-Apart (is_waiting d.timelines) b.fences apart)) (both-in d put fences given waits its) in
        rw (pending, grown) (omega (arith, few))
    go (inr pending) (inr small) there = rw (pending, small) (omega (arith, low))

-- the tables after a request
same-tables : (w v : World) (most : ℕ → ℕ) → v.objects.buffers ≡ w.objects.buffers → HasTables w most → HasTables v (λ n. max (most n) (pending_put v n))
same-tables w v most same h n b is = IsTable-more (most n) (max (most n) (pending_put v n)) b (omega arith) (h n b (sym (ap (λ bs. bs n) same) ∙ is))

fewer-tables : (w v : World) (most : ℕ → ℕ) (number : ℕ) → v.objects.buffers ≡ with_at w.objects.buffers number None → HasTables w most → HasTables v (λ n. max (most n) (pending_put v n))
fewer-tables w v most number same h n b is = elim (cases_eq number n) [
  | inl its ↦ None≢Some b (sym (with_at-same w.objects.buffers number None) ∙ ap (with_at w.objects.buffers number None) its ∙ sym (ap (λ bs. bs n) same) ∙ is)
  | inr apart ↦ IsTable-more (most n) (max (most n) (pending_put v n)) b (omega arith) (h n b (sym (with_at-other w.objects.buffers number None n apart) ∙ sym (ap (λ bs. bs n) same) ∙ is))
]

new-table : (w v : World) (most : ℕ → ℕ) (number time : ℕ) → v.objects.buffers ≡ with_at w.objects.buffers number (Some (empty_buffer time)) → HasTables w most → HasTables v (λ n. max (most n) (pending_put v n))
new-table w v most number time same h n b is = elim (cases_eq number n) [
  | inl its ↦
      let new = Some (empty_buffer time) in
      let empty : empty_buffer time ≡ b = same_Some (sym (with_at-same w.objects.buffers number new) ∙ ap (with_at w.objects.buffers number new) its ∙ sym (ap (λ bs. bs n) same) ∙ is) in
      subst (IsTable (max (most n) (pending_put v n))) empty (tt, omega arith, omega arith)
  | inr apart ↦ IsTable-more (most n) (max (most n) (pending_put v n)) b (omega arith) (h n b (sym (with_at-other w.objects.buffers number (Some (empty_buffer time)) n apart) ∙ sym (ap (λ bs. bs n) same) ∙ is))
]

imported-table : (d : Objects) (u : Result Usage Errno) (o : Option FileState) (p : Option BufferState) (b : BufferState) (put : List Entry) (most : ℕ) → HasGivenTimelines d → ((f : FileState) → o ≡ Some f → All (IsFence d) f.fences) → ((c : BufferState) → p ≡ Some c → IsTable most c) → AreAmong put b.fences → import_of d.timelines u o p ≡ Some b
    → IsTable (max most (length (unique_keys is_same_entry (filter (λ e. not (is_reached (reach_of d) e.point)) put)))) b
imported-table d (Err e) o p b put most given file was among is = IsTable-more most _ b (omega arith) (was b is)
imported-table d (Ok usage) None p b put most given file was among is = IsTable-more most _ b (omega arith) (was b is)
imported-table d (Ok usage) (Some f) None b put most given file was among is = None≢Some b is
imported-table d (Ok usage) (Some f) (Some c) b put most given file was among is =
    let its : import_into d.timelines usage f.fences c ≡ b = same_Some is in
    let old = was c refl in
    let P : BufferState → Type 0 = IsTable (max most (length (unique_keys is_same_entry (filter (λ e. not (is_reached (reach_of d) e.point)) put)))) in
    subst P its (
      import-Apart d.timelines usage f.fences c old.0,
      HasRoom-import d.timelines usage f.fences c old.1,
      import-left d usage f.fences c put most given (file f refl) old.0 (subst (λ (x : BufferState). AreAmong put x.fences) (sym its) among) old.2,
    )

HasTables-after : (w : World) (r : Request) (most : ℕ → ℕ) → IsSound w → HasListed (world_after w r) → HasTables w most → HasTables (world_after w r) (λ n. max (most n) (pending_put (world_after w r) n))
HasTables-after w (request.Open name) most sound listed h = same-tables w (world_after w (request.Open name)) most refl h
HasTables-after w (request.Fence t point now) most sound listed h = same-tables w (world_after w (request.Fence t point now)) most refl h
HasTables-after w (request.Inc t n now) most sound listed h = same-tables w (world_after w (request.Inc t n now)) most refl h
HasTables-after w (request.Merge a b name) most sound listed h = same-tables w (world_after w (request.Merge a b name)) most refl h
HasTables-after w (request.Status file) most sound listed h = same-tables w (world_after w (request.Status file)) most refl h
HasTables-after w (request.IsSignalled file) most sound listed h = same-tables w (world_after w (request.IsSignalled file)) most refl h
HasTables-after w (request.Info file) most sound listed h = same-tables w (world_after w (request.Info file)) most refl h
HasTables-after w (request.Close number now) most sound listed h = elim (cases_Bool (is_some (w.objects.timelines number))) [
  | inl timeline ↦ same-tables w (world_after w (request.Close number now)) most (rw timeline refl) h
  | inr other ↦ fewer-tables w (world_after w (request.Close number now)) most number (rw other refl) h
]
HasTables-after w (request.Buffer now) most sound listed h = new-table w (world_after w (request.Buffer now)) most w.objects.next now refl h
HasTables-after w (request.Export buffer flags) most sound listed h = same-tables w (world_after w (request.Export buffer flags)) most refl h
HasTables-after w (request.Import buffer file flags) most sound listed h = λ n b is.
    let u = import_usage flags in
    let v = world_after w (request.Import buffer file flags) in
    let new = import_of w.objects.timelines u (w.objects.files file) (w.objects.buffers buffer) in
    elim (cases_eq buffer n) [
      | inl same ↦
          let its : new ≡ Some b = sym (with_at-same w.objects.buffers buffer new) ∙ ap (with_at w.objects.buffers buffer new) same ∙ is in
          imported-table w.objects u (w.objects.files file) (w.objects.buffers buffer) b (v.put n) (most n) (given_timelines w sound)
          (λ f has. (sound.fences file f has).each)
          (λ c has. h n c (sym (ap w.objects.buffers same) ∙ has))
          (listed.buffers n b is) its
      | inr apart ↦ IsTable-more (most n) (max (most n) (pending_put v n)) b (omega arith) (h n b (sym (with_at-other w.objects.buffers buffer new n apart) ∙ is))
    ]
HasTables-after w (request.Test buffer usage) most sound listed h = same-tables w (world_after w (request.Test buffer usage)) most refl h

-- and after a whole history
now-pending : (n : ℕ) (w : World) (rs : List Request) → pending_put w n ≤ most_pending n w rs
now-pending n w [] = omega arith
now-pending n w (r ∷ rs) = omega arith

HasTables-from : (history : List Request) (w : World) (most : ℕ → ℕ) → IsSound w → HasListed w → AreAccepted w history → HasTables w most → HasTables (world_from w history) (λ n. max (most n) (most_pending n w history))
HasTables-from [] w most sound listed accepted h = λ n b is. IsTable-more (most n) (max (most n) (pending_put w n)) b (omega arith) (h n b is)
HasTables-from (r ∷ rs) w most sound listed accepted h =
    let v = world_after w r in
    let listed_after = HasListed-after w r sound listed in
    let rest = HasTables-from rs v (λ n. max (most n) (pending_put v n)) (IsSound-after w r sound accepted.0) listed_after accepted.1 (HasTables-after w r most sound listed_after h) in
    λ n b is.
    let low = now-pending n v rs in
    IsTable-more (max (max (most n) (pending_put v n)) (most_pending n v rs)) (max (most n) (max (pending_put w n) (most_pending n v rs))) b (omega (arith, low)) (rest n b is)

room-of : (b : BufferState) (most : ℕ) → HasRoom b → b.left ≤ max 0 most → length b.fences ≤ GROWTH * max most UNTRIMMED
room-of b most room low = omega (arith, room, low)

pub AreTrimmed-stands : (d : DeviceState) (history : List Request) → HasHistory d history → AreTrimmed d history
AreTrimmed-stands d history had n b is =
    let all = HasTables-from history empty_world (λ _. 0) IsSound-empty HasListed-empty had.accepted (λ m c its. None≢Some c its) in
    let table = all n b (sym (ap (λ (o : Objects). o.buffers n) had.is) ∙ is) in
    room-of b (most_pending n empty_world history) table.1 table.2
