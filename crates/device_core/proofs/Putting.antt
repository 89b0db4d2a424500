-- Fences that are put into a buffer, and fences that a trim drops.
use Rattle.std.proofs.Common.{◌≡◌, ℕ, ◌+◌, ◌*◌, ◌<◌, ◌≤◌, ◌⊎◌, zero, suc, max, refl, sym, ap, ◌∙◌, List, [], ◌∷◌, ◌++◌, length, get_or, set, drop, map, filter, Option, None, Some, Bool, true, false, if◌then◌else◌, inl, inr, arith, Contains, append_assoc, append-nil}
use Rattle.std.specs.Prelude.{fold}
use Rattle.std.specs.List.{AllWithin, HoldsAt}
use Rattle.std.proofs.lemmas.Bool.{cases_Bool, ltb-false, false≢true}
use Rattle.std.proofs.lemmas.List.{map-append, drop_more, drop_all}
use Rattle.std.proofs.lemmas.List.Elements.{Contains-append_right}
use Rattle.point_core.specs.declared.entry.Entry.{Entry}
use Rattle.point_core.specs.declared.entry.Usage.{Usage}
use Rattle.point_core.specs.Reach.{value_at}
use Rattle.point_core.specs.Agreement.{AgreesAbove, applies, covers, top}
use Rattle.point_core.specs.Latest.{raised_to}
use Rattle.point_core.proofs.Latest.{put_if, put_if-comm, raised_to-if, raised_to-top-last, applies-true}
use Rattle.point_core.proofs.Agreement.{AppliesAt-from_true, AgreesAbove-append, AgreesAbove-from_raised, AgreesAbove-refl, AgreesAbove-same, AgreesAbove-signalled, AgreesAbove-sym, AgreesAbove-trans}
use Rattle.point_core.proofs.Reached.{covers-Covers}
use Rattle.device_core.specs.declared.buffer.TheConstants.{GROWTH, UNTRIMMED}
use Rattle.device_core.specs.declared.buffer_fence.BufferFence.{BufferFence}
use Rattle.device_core.specs.declared.fence.Fence.{Fence}
use Rattle.device_core.specs.declared.fence.Timeline.{Timeline}
use Rattle.device_core.specs.theorem.Fences.{are_signalled, is_pending, pending_of}
use Rattle.device_core.specs.theorem.Buffers.{BufferState, IsReachOf, entries_of, entry_of, has_grown, import_into, imported, is_waiting, put_as, state_of, trimmed_with, waits_in, with_buffer_fence, with_fences}

-- a covered entry adds nothing
put_if-covered : (new old : Bool) (p q value : ℕ) → (old ≡ true → (new ≡ true) × (q ≤ p)) → put_if new p value ≡ put_if new p (put_if old q value)
put_if-covered new false p q value h = refl
put_if-covered true true p q value h = let low = (h refl).1 in omega arith
put_if-covered false true p q value h = absurd (false≢true (h refl).0)

covered-applies : (new old : Entry) (usage ctx : ℕ) → covers new old ≡ true → applies old usage ctx ≡ true → (applies new usage ctx ≡ true) × (old.point.value ≤ new.point.value)
covered-applies new old usage ctx is applied =
    let by = (covers-Covers new old).0 is in
    let here = AppliesAt-from_true old usage ctx applied in
    (applies-true new usage ctx (omega (arith, by.1, here.0)) (by.0 ∙ here.1), by.2)

raised_to-top-with : (value : ℕ) (hs : List BufferFence) (new : BufferFence) (usage ctx : ℕ) → raised_to value (top (entries_of (with_buffer_fence hs new)) usage ctx) ≡ put_if (applies (entry_of new) usage ctx) new.value (raised_to value (top (entries_of hs) usage ctx))
raised_to-top-with value [] new usage ctx = raised_to-if (applies (entry_of new) usage ctx) value new.value None
raised_to-top-with value (old ∷ hs) new usage ctx = go (cases_Bool (covers (entry_of new) (entry_of old))) (raised_to-top-with value hs new usage ctx)
  where
    rest : ℕ
    rest = raised_to value (top (entries_of hs) usage ctx)

    go : (covers (entry_of new) (entry_of old) ≡ true) ⊎ (covers (entry_of new) (entry_of old) ≡ false) → raised_to value (top (entries_of (with_buffer_fence hs new)) usage ctx) ≡ put_if (applies (entry_of new) usage ctx) new.value (raised_to value (top (entries_of hs) usage ctx)) → raised_to value (top (entries_of (with_buffer_fence (old ∷ hs) new)) usage ctx) ≡ put_if (applies (entry_of new) usage ctx) new.value (raised_to value (top (entries_of (old ∷ hs)) usage ctx))
    go (inl covered) again =
        rw covered
        (raised_to-if (applies (entry_of new) usage ctx) value new.value (top (entries_of hs) usage ctx)
        ∙ put_if-covered (applies (entry_of new) usage ctx) (applies (entry_of old) usage ctx) new.value old.value (raised_to value (top (entries_of hs) usage ctx)) (covered-applies (entry_of new) (entry_of old) usage ctx covered)
        ∙ ap (put_if (applies (entry_of new) usage ctx) new.value) (sym (raised_to-if (applies (entry_of old) usage ctx) value old.value (top (entries_of hs) usage ctx))))
    go (inr other) again =
        rw other
        (raised_to-if (applies (entry_of old) usage ctx) value old.value (top (entries_of (with_buffer_fence hs new)) usage ctx)
        ∙ ap (put_if (applies (entry_of old) usage ctx) old.value) again
        ∙ put_if-comm (applies (entry_of old) usage ctx) (applies (entry_of new) usage ctx) old.value new.value (raised_to value (top (entries_of hs) usage ctx))
        ∙ ap (put_if (applies (entry_of new) usage ctx) new.value) (sym (raised_to-if (applies (entry_of old) usage ctx) value old.value (top (entries_of hs) usage ctx))))

-- putting a fence in the place of one that it covers agrees with adding it
with_buffer_fence-agrees : (reach : List ℕ) (hs : List BufferFence) (new : BufferFence) → AgreesAbove reach (entries_of (with_buffer_fence hs new)) (entries_of (hs ++ new ∷ []))
with_buffer_fence-agrees reach hs new = AgreesAbove-from_raised (λ usage ctx.
    raised_to-top-with (value_at reach ctx) hs new usage ctx
    ∙ sym (raised_to-top-last (value_at reach ctx) (entries_of hs) (entry_of new) usage ctx)
    ∙ ap (λ es. raised_to (value_at reach ctx) (top es usage ctx)) (sym (map-append entry_of hs (new ∷ []))))

-- the first fence that it covers was found, or none was
pub placed-first : (hs : List BufferFence) (i : ℕ) (new : BufferFence) → i < length hs → HoldsAt (λ old. covers (entry_of new) (entry_of old) ≡ true) hs i → AllWithin (λ old. covers (entry_of new) (entry_of old) ≡ false) hs 0 i → set hs i new ≡ with_buffer_fence hs new
placed-first [] i new low fits none = absurd (omega arith)
placed-first (h ∷ hs) zero new low fits none = let is : covers (entry_of new) (entry_of h) ≡ true = fits new in rw is refl
placed-first (h ∷ hs) (suc i) new low fits none =
    let not : covers (entry_of new) (entry_of h) ≡ false = none 0 new (omega arith) (omega arith) in
    rw not (ap (λ gs. h ∷ gs) (placed-first hs i new (omega arith) fits (λ k d from below. none (suc k) d (omega arith) (omega arith))))

pub placed-last : (hs : List BufferFence) (new : BufferFence) → AllWithin (λ old. covers (entry_of new) (entry_of old) ≡ false) hs 0 (length hs) → hs ++ new ∷ [] ≡ with_buffer_fence hs new
placed-last [] new none = refl
placed-last (h ∷ hs) new none =
    let not : covers (entry_of new) (entry_of h) ≡ false = none 0 new (omega arith) (omega arith) in
    rw not (ap (λ gs. h ∷ gs) (placed-last hs new (λ k d from below. none (suc k) d (omega arith) (omega arith))))

-- a fence that does not wait is reached
reached_at : (timelines : ℕ → Option Timeline) (hs : List BufferFence) (reach : List ℕ) (h : BufferFence) (o : Option Timeline) → IsReachOf timelines hs reach → Contains hs h → timelines h.timeline ≡ o → waits_in o h.value ≡ false → h.value ≤ value_at reach h.timeline
reached_at timelines hs reach h None of among is not = of.closed h among is
reached_at timelines hs reach h (Some t) of among is not =
    let low = ltb-false t.value h.value not in
    let value = of.values h.timeline t is in
    omega arith

pub not_waiting-reached : (timelines : ℕ → Option Timeline) (hs : List BufferFence) (reach : List ℕ) (h : BufferFence) → IsReachOf timelines hs reach → Contains hs h → is_waiting timelines h ≡ false → h.value ≤ value_at reach h.timeline
not_waiting-reached timelines hs reach h of among not = reached_at timelines hs reach h (timelines h.timeline) of among refl not

pub IsReachOf-tail : (timelines : ℕ → Option Timeline) (h : BufferFence) (hs : List BufferFence) (reach : List ℕ) → IsReachOf timelines (h ∷ hs) reach → IsReachOf timelines hs reach
IsReachOf-tail timelines h hs reach of = record { values = of.values; closed = λ g among. of.closed g (Contains-append_right (h ∷ []) hs g among) }

pub Contains-first : (h : BufferFence) (hs : List BufferFence) → Contains (h ∷ hs) h
Contains-first h hs = (0, omega arith, refl)

-- so a trim changes nothing above the reach
AgreesAbove-trimmed : (timelines : ℕ → Option Timeline) (hs : List BufferFence) (reach : List ℕ) → IsReachOf timelines hs reach → AgreesAbove reach (entries_of (filter (is_waiting timelines) hs)) (entries_of hs)
AgreesAbove-trimmed timelines [] reach of = AgreesAbove-refl reach []
AgreesAbove-trimmed timelines (h ∷ hs) reach of = go (cases_Bool (is_waiting timelines h)) (AgreesAbove-trimmed timelines hs reach (IsReachOf-tail timelines h hs reach of))
  where
    go : (is_waiting timelines h ≡ true) ⊎ (is_waiting timelines h ≡ false) → AgreesAbove reach (entries_of (filter (is_waiting timelines) hs)) (entries_of hs) → AgreesAbove reach (entries_of (filter (is_waiting timelines) (h ∷ hs))) (entries_of (h ∷ hs))
    go (inl waits) rest = rw waits (AgreesAbove-append (AgreesAbove-refl reach (entry_of h ∷ [])) rest)
    go (inr not) rest = rw not (AgreesAbove-trans rest (AgreesAbove-sym (AgreesAbove-signalled reach (entry_of h) (entries_of hs) (not_waiting-reached timelines (h ∷ hs) reach h of (Contains-first h hs) not))))

-- one fence of a file after another
put-cons : (usage : Usage) (f : Fence) (fs : List Fence) (hs : List BufferFence) → fold with_buffer_fence hs (imported usage (f ∷ fs)) ≡ fold with_buffer_fence (fold with_buffer_fence hs (imported usage (f ∷ []))) (imported usage fs)
put-cons usage f fs hs = elim (cases_Bool (is_pending f)) [
  | inl pending ↦ rw pending refl
  | inr signalled ↦ rw signalled refl
]

pub put-more : (usage : Usage) (now new all : List BufferFence) (put : List Fence) (i : ℕ) (d : Fence) → i < length put → new ≡ fold with_buffer_fence now (imported usage (get_or put i d ∷ [])) → fold with_buffer_fence now (imported usage (drop i put)) ≡ all → fold with_buffer_fence new (imported usage (drop (i + 1) put)) ≡ all
put-more usage now new all put i d low step so_far =
    ap (λ hs. fold with_buffer_fence hs (imported usage (drop (i + 1) put))) step
    ∙ sym (put-cons usage (get_or put i d) (drop (i + 1) put) now)
    ∙ ap (λ fs. fold with_buffer_fence now (imported usage fs)) (sym (drop_more put i d low))
    ∙ so_far

pub put-all : (usage : Usage) (now all : List BufferFence) (put : List Fence) (i : ℕ) → length put ≤ i → fold with_buffer_fence now (imported usage (drop i put)) ≡ all → now ≡ all
put-all usage now all put i past so_far = sym (ap (λ fs. fold with_buffer_fence now (imported usage fs)) (drop_all i put past)) ∙ so_far

AgreesAbove-more : (reach : List ℕ) (now new one rest : List BufferFence) (all : List Entry) → AgreesAbove reach (entries_of new) (entries_of (now ++ one)) → AgreesAbove reach (entries_of (now ++ (one ++ rest))) all → AgreesAbove reach (entries_of (new ++ rest)) all
AgreesAbove-more reach now new one rest all step so_far =
    AgreesAbove-trans (AgreesAbove-same reach (map-append entry_of new rest))
    (AgreesAbove-trans (AgreesAbove-append step (AgreesAbove-refl reach (entries_of rest)))
    (AgreesAbove-trans (AgreesAbove-same reach (sym (map-append entry_of (now ++ one) rest) ∙ ap entries_of (append_assoc now one rest)))
    so_far))

-- fences that are put one after another
put_each-agrees : (reach : List ℕ) (put hs : List BufferFence) → AgreesAbove reach (entries_of (fold with_buffer_fence hs put)) (entries_of (hs ++ put))
put_each-agrees reach [] hs = AgreesAbove-same reach (ap entries_of (sym (append-nil hs)))
put_each-agrees reach (g ∷ gs) hs =
    AgreesAbove-trans (put_each-agrees reach gs (with_buffer_fence hs g))
    (AgreesAbove-more reach hs (with_buffer_fence hs g) (g ∷ []) gs (entries_of (hs ++ g ∷ gs)) (with_buffer_fence-agrees reach hs g) (AgreesAbove-refl reach (entries_of (hs ++ g ∷ gs))))

-- the fences that a trim leaves, and the new ones
AgreesAbove-put_after : (reach : List ℕ) (old trimmed new put : List BufferFence) → AgreesAbove reach (entries_of trimmed) (entries_of old) → AgreesAbove reach (entries_of new) (entries_of (trimmed ++ put)) → AgreesAbove reach (entries_of new) (entries_of (old ++ put))
AgreesAbove-put_after reach old trimmed new put trim step =
    AgreesAbove-trans step
    (AgreesAbove-trans (AgreesAbove-same reach (map-append entry_of trimmed put))
    (AgreesAbove-trans (AgreesAbove-append trim (AgreesAbove-refl reach (entries_of put)))
    (AgreesAbove-same reach (sym (map-append entry_of old put)))))

-- a file without pending fences
pending_of-signalled : (fs : List Fence) → are_signalled fs ≡ true → pending_of fs ≡ []
pending_of-signalled [] is = refl
pending_of-signalled (f ∷ fs) is = go (cases_Bool (is_pending f)) (λ rest. pending_of-signalled fs rest)
  where
    go : (is_pending f ≡ true) ⊎ (is_pending f ≡ false) → (are_signalled fs ≡ true → pending_of fs ≡ []) → pending_of (f ∷ fs) ≡ []
    go (inl pending) rest = absurd (false≢true (rw pending at is))
    go (inr signalled) rest = rw signalled (rest (rw signalled at is))

AgreesAbove-none : (reach : List ℕ) (usage : Usage) (hs : List BufferFence) (put : List Fence) → are_signalled put ≡ true → AgreesAbove reach (entries_of hs) (entries_of (hs ++ imported usage put))
AgreesAbove-none reach usage hs put is = AgreesAbove-same reach (sym (ap (λ fs. entries_of (hs ++ map (put_as usage) fs)) (pending_of-signalled put is) ∙ ap entries_of (append-nil hs)))

-- the states of a buffer
pub import-none : (timelines : ℕ → Option Timeline) (usage : Usage) (fs : List Fence) (b : BufferState) → are_signalled fs ≡ true → b ≡ import_into timelines usage fs b
import-none timelines usage fs b is = rw is refl

pub import-is : (timelines : ℕ → Option Timeline) (usage : Usage) (fs : List Fence) (b : BufferState) (start kept new : List BufferFence) (grown : Bool) (left : ℕ) → are_signalled fs ≡ false → start ≡ b.fences → grown ≡ has_grown b.left (length fs) start → kept ≡ (if grown then filter (is_waiting timelines) start else start) → new ≡ fold with_buffer_fence kept (imported usage fs) → left ≡ (if grown then length new else b.left) → state_of new left b.stub_at ≡ import_into timelines usage fs b
import-is timelines usage fs b start kept new grown left not same is trim put count =
    let test : has_grown b.left (length fs) b.fences ≡ grown = ap (has_grown b.left (length fs)) (sym same) ∙ sym is in
    rw (not, test) (go grown trim count)
  where
    go : (g : Bool) → kept ≡ (if g then filter (is_waiting timelines) start else start) → left ≡ (if g then length new else b.left) → state_of new left b.stub_at ≡ (if g then trimmed_with timelines b (imported usage fs) else with_fences b (imported usage fs))
    go true trim count =
        let all : new ≡ fold with_buffer_fence (filter (is_waiting timelines) b.fences) (imported usage fs) = put ∙ ap (λ hs. fold with_buffer_fence hs (imported usage fs)) (trim ∙ ap (filter (is_waiting timelines)) same) in
        ap (λ n. state_of new n b.stub_at) count ∙ ap (λ hs. state_of hs (length hs) b.stub_at) all
    go false trim count =
        let all : new ≡ fold with_buffer_fence b.fences (imported usage fs) = put ∙ ap (λ hs. fold with_buffer_fence hs (imported usage fs)) (trim ∙ same) in
        ap (λ n. state_of new n b.stub_at) count ∙ ap (λ hs. state_of hs b.left b.stub_at) all

-- an import adds the pending fences, whether or not the table is trimmed
pub import-agrees : (timelines : ℕ → Option Timeline) (usage : Usage) (fs : List Fence) (b : BufferState) (reach : List ℕ) → IsReachOf timelines b.fences reach → AgreesAbove reach (entries_of (import_into timelines usage fs b).fences) (entries_of (b.fences ++ imported usage fs))
import-agrees timelines usage fs b reach of = go (cases_Bool (are_signalled fs)) (cases_Bool (has_grown b.left (length fs) b.fences))
  where
    go : (are_signalled fs ≡ true) ⊎ (are_signalled fs ≡ false) → (has_grown b.left (length fs) b.fences ≡ true) ⊎ (has_grown b.left (length fs) b.fences ≡ false) → AgreesAbove reach (entries_of (import_into timelines usage fs b).fences) (entries_of (b.fences ++ imported usage fs))
    go (inl is) grown = rw is (AgreesAbove-none reach usage b.fences fs is)
    go (inr not) (inl grown) =
        let kept = filter (is_waiting timelines) b.fences in
        rw (not, grown) (AgreesAbove-put_after reach b.fences kept (fold with_buffer_fence kept (imported usage fs)) (imported usage fs) (AgreesAbove-trimmed timelines b.fences reach of) (put_each-agrees reach (imported usage fs) kept))
    go (inr not) (inr small) = rw (not, small) (put_each-agrees reach (imported usage fs) b.fences)

-- a table has no more fences than it may have
abbrev pub HasRoom : BufferState → Type 0
HasRoom b = length b.fences ≤ GROWTH * max b.left UNTRIMMED

length-with : (hs : List BufferFence) (g : BufferFence) → length (with_buffer_fence hs g) ≤ length hs + 1
length-with [] g = omega arith
length-with (h ∷ hs) g = go (cases_Bool (covers (entry_of g) (entry_of h))) (length-with hs g)
  where
    go : (covers (entry_of g) (entry_of h) ≡ true) ⊎ (covers (entry_of g) (entry_of h) ≡ false) → length (with_buffer_fence hs g) ≤ length hs + 1 → length (with_buffer_fence (h ∷ hs) g) ≤ length (h ∷ hs) + 1
    go (inl covered) rest = rw covered (omega arith)
    go (inr other) rest = rw other (omega (arith, rest))

length-put : (gs hs : List BufferFence) → length (fold with_buffer_fence hs gs) ≤ length hs + length gs
length-put [] hs = omega arith
length-put (g ∷ gs) hs =
    let one = length-with hs g in
    let rest = length-put gs (with_buffer_fence hs g) in
    omega (arith, one, rest)

length-imported : (usage : Usage) (fs : List Fence) → length (imported usage fs) ≤ length fs
length-imported usage [] = omega arith
length-imported usage (f ∷ fs) = go (cases_Bool (is_pending f)) (length-imported usage fs)
  where
    go : (is_pending f ≡ true) ⊎ (is_pending f ≡ false) → length (imported usage fs) ≤ length fs → length (imported usage (f ∷ fs)) ≤ length (f ∷ fs)
    go (inl pending) rest = rw pending (omega (arith, rest))
    go (inr signalled) rest = rw signalled (omega (arith, rest))

pub HasRoom-import : (timelines : ℕ → Option Timeline) (usage : Usage) (fs : List Fence) (b : BufferState) → HasRoom b → HasRoom (import_into timelines usage fs b)
HasRoom-import timelines usage fs b few = go (cases_Bool (are_signalled fs)) (cases_Bool (has_grown b.left (length fs) b.fences))
  where
    most : length (imported usage fs) ≤ length fs
    most = length-imported usage fs

    go : (are_signalled fs ≡ true) ⊎ (are_signalled fs ≡ false) → (has_grown b.left (length fs) b.fences ≡ true) ⊎ (has_grown b.left (length fs) b.fences ≡ false) → HasRoom (import_into timelines usage fs b)
    go (inl is) grown = rw is few
    go (inr not) (inl grown) =
        rw (not, grown) (omega arith)
    go (inr not) (inr small) =
        let put = length-put (imported usage fs) b.fences in
        let low = ltb-false (GROWTH * max b.left UNTRIMMED) (length b.fences + length fs) small in
        rw (not, small) (omega (arith, put, most, low))
