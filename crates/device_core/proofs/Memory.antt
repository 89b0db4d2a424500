-- The tables are no larger than what is alive.
use Rattle.std.proofs.Common.{◌≡◌, ℕ, ◌+◌, ◌<◌, ◌≤◌, ◌⊎◌, zero, suc, inl, inr, Bool, true, false, nat_eq, nat_lt, ◌&&◌, ◌||◌, refl, sym, ap, ◌∙◌, subst, List, [], ◌∷◌, length, map, filter, arith}
use Rattle.std.specs.Prelude.{Option, None, Some, is_some}
use Rattle.std.specs.List.{IsDistinct, flat_map, range_with_len, sum_by}
use Rattle.std.specs.Map.{keys_of}
use Rattle.std.specs.Set.{is_member}
use Rattle.std.proofs.lemmas.Bool.{and_from, and_parts, cases_Bool, eqb-true, eq-eqb, false≢true, ltb-false, ltb-true}
use Rattle.std.proofs.lemmas.Cmp.{eq_by_cmp_equiv, nat_eq_equiv}
use Rattle.std.proofs.lemmas.List.{length-map}
use Rattle.std.proofs.lemmas.List.Concat.{length-flat_map}
use Rattle.std.proofs.lemmas.List.Folds.{list_any-append}
use Rattle.std.proofs.lemmas.Map.Entries.{length-keys_of}
use Rattle.std.proofs.lemmas.Map.Keys.{IsDistinct-from_sorted}
use Rattle.std.proofs.lemmas.Map.Made.{is_member-filter, is_some-lookup, length-le_from_is_member}
use Rattle.device_core.specs.declared.fence.Fence.{Fence}
use Rattle.device_core.specs.declared.waiting_files.Waiter.{Waiter}
use Rattle.device_core.specs.theorem.Fences.{is_pending, pending_of, waits_at, waiter}
use Rattle.device_core.specs.theorem.Memory.{alive, pending_in}
use Rattle.device_core.specs.theorem.State.{AreInOrder, FileState, IsIndexed, at, file_waits, holds, is_same, order}
use Rattle.device_core.proofs.Held.{found-holds}
use Rattle.device_core.proofs.InOrder.{order_total}

pub or_left : (a b : Bool) → a ≡ true → (a || b) ≡ true
or_left true b h = refl
or_left false b h = absurd (false≢true h)

pub or_right : (a b : Bool) → b ≡ true → (a || b) ≡ true
or_right true b h = refl
or_right false b h = h

pub or_cases : (a b : Bool) → (a || b) ≡ true → (a ≡ true) ⊎ (b ≡ true)
or_cases true b h = inl refl
or_cases false b h = inr h

pub at_or_past : (a q : ℕ) → a ≤ q → (q ≡ a) ⊎ (a + 1 ≤ q)
at_or_past a q low = grind arith

-- the numbers below another
among : (a n q : ℕ) → a ≤ q → q < a + n → is_member nat_eq (range_with_len a n) q ≡ true
among a zero q low high = absurd (omega arith)
among a (suc n) q low high = elim (at_or_past a q low) [
  | inl is ↦ or_left (nat_eq q a) (is_member nat_eq (range_with_len (a + 1) n) q) (eq-eqb q a is)
  | inr past ↦ or_right (nat_eq q a) (is_member nat_eq (range_with_len (a + 1) n) q) (among (a + 1) n q past (omega arith))
]

in_range : (next q : ℕ) → q < next → q < 0 + next
in_range next q low = omega arith

-- a number whose object is alive was given
was_given : {X : Type 0} (kept : ℕ → Option X) (next n : ℕ) → ((q : ℕ) → next ≤ q → kept q ≡ None) → is_some (kept n) ≡ true → n < next
was_given kept next n given there = elim (cases_Bool (nat_lt n next)) [
  | inl low ↦ ltb-true n next low
  | inr high ↦ absurd (false≢true (sym (ap is_some (given n (ltb-false n next high))) ∙ there))
]

-- a table has no more entries than are alive
pub kept-alive : {X : Type 0} (es : List (ℕ × X)) (next : ℕ) → IsDistinct nat_eq (keys_of es) → ((n : ℕ) → next ≤ n → at es n ≡ None) → length es ≤ alive (at es) next
kept-alive es next distinct given =
    let numbers = range_with_len 0 next in
    let live : ℕ → Bool = λ n. is_some (at es n) in
    let few = length-le_from_is_member nat_eq_equiv (keys_of es) (filter live numbers) distinct (λ q there.
    let alive_there : is_some (at es q) ≡ true = is_some-lookup (nat_eq q) es ∙ there in
    is_member-filter nat_eq_equiv live q (λ x same. ap live (eqb-true q x same)) numbers
    ∙ and_from (is_member nat_eq numbers q) (live q) (among 0 next q (omega arith) (in_range next q (was_given (at es) next q given alive_there))) alive_there) in
    subst (λ n. n ≤ length (filter live numbers)) (length-keys_of es) few

-- the points for which a file waits
abbrev points_of : ℕ → Option FileState → List Waiter
points_of n None = []
points_of n (Some f) = map (waiter n) (pending_of f.fences)

length-points : (n : ℕ) (o : Option FileState) → length (points_of n o) ≡ pending_in o
length-points n None = refl
length-points n (Some f) = length-map (pending_of f.fences) (waiter n)

turned : (a b : ℕ) → nat_eq a b ≡ true → nat_eq b a ≡ true
turned a b same = eq-eqb b a (sym (eqb-true a b same))

held-here : (k : Waiter) (fs : List Fence) → waits_at k fs ≡ true → holds (map (waiter k.file) (pending_of fs)) k ≡ true
held-here k [] waits = absurd (false≢true waits)
held-here k (f ∷ fs) waits = go (or_cases (is_pending f && (nat_eq f.timeline k.timeline && nat_eq f.value k.value)) (waits_at k fs) waits) (cases_Bool (is_pending f)) (λ later. held-here k fs later)
  where
    go : ((is_pending f && (nat_eq f.timeline k.timeline && nat_eq f.value k.value)) ≡ true) ⊎ (waits_at k fs ≡ true) → (is_pending f ≡ true) ⊎ (is_pending f ≡ false) → (waits_at k fs ≡ true → holds (map (waiter k.file) (pending_of fs)) k ≡ true) → holds (map (waiter k.file) (pending_of (f ∷ fs))) k ≡ true
    go (inl here) (inl pending) rest =
        let both = and_parts (nat_eq f.timeline k.timeline) (nat_eq f.value k.value) (and_parts (is_pending f) (nat_eq f.timeline k.timeline && nat_eq f.value k.value) here).1 in
        rw pending
        (or_left (is_same k (waiter k.file f)) (holds (map (waiter k.file) (pending_of fs)) k)
        (and_from (nat_eq k.timeline f.timeline) (nat_eq k.value f.value && nat_eq k.file k.file) (turned f.timeline k.timeline both.0)
        (and_from (nat_eq k.value f.value) (nat_eq k.file k.file) (turned f.value k.value both.1) (eq-eqb k.file k.file refl))))
    go (inl here) (inr signalled) rest = absurd (false≢true (sym signalled ∙ (and_parts (is_pending f) (nat_eq f.timeline k.timeline && nat_eq f.value k.value) here).0))
    go (inr later) (inl pending) rest = rw pending (or_right (is_same k (waiter k.file f)) (holds (map (waiter k.file) (pending_of fs)) k) (rest later))
    go (inr later) (inr signalled) rest = rw signalled (rest later)

held-points : (k : Waiter) (o : Option FileState) → file_waits k o ≡ true → holds (points_of k.file o) k ≡ true
held-points k None waits = absurd (false≢true waits)
held-points k (Some f) waits = held-here k f.fences waits

held-from : (files : ℕ → Option FileState) (a n : ℕ) (k : Waiter) → a ≤ k.file → k.file < a + n → holds (points_of k.file (files k.file)) k ≡ true → holds (flat_map (λ m. points_of m (files m)) (range_with_len a n)) k ≡ true
held-from files a zero k low high there = absurd (omega arith)
held-from files a (suc n) k low high there =
    let rest = flat_map (λ m. points_of m (files m)) (range_with_len (a + 1) n) in
    list_any-append (is_same k) (points_of a (files a)) rest
    ∙ elim (at_or_past a k.file low) [
      | inl is ↦ or_left (holds (points_of a (files a)) k) (holds rest k) (subst (λ m. holds (points_of m (files m)) k ≡ true) is there)
      | inr past ↦ or_right (holds (points_of a (files a)) k) (holds rest k) (held-from files (a + 1) n k past (omega arith) there)
    ]

-- the index has no more points than fences are pending
pub waiting-alive : (index : List Waiter) (files : List (ℕ × FileState)) (next : ℕ) → AreInOrder index → IsIndexed index files → ((n : ℕ) → next ≤ n → at files n ≡ None) → length index ≤ sum_by (λ n. pending_in (at files n)) (range_with_len 0 next)
waiting-alive index files next ordered indexed given =
    let numbers = range_with_len 0 next in
    let all = flat_map (λ n. points_of n (at files n)) numbers in
    let few = length-le_from_is_member (eq_by_cmp_equiv order_total) index all (IsDistinct-from_sorted order index ordered) (λ k there.
    let held : holds index k ≡ true = sym (found-holds k index) ∙ there in
    let waits : file_waits k (at files k.file) ≡ true = sym (indexed k) ∙ held in
    found-holds k all ∙ held-from (at files) 0 next k (omega arith) (in_range next k.file (was_given (at files) next k.file given (is_there k (at files k.file) waits))) (held-points k (at files k.file) waits)) in
    subst (λ n. length index ≤ n) (length-flat_map (λ n. points_of n (at files n)) numbers ∙ (λ i. sum_by (λ n. length-points n (at files n) i) numbers)) few
  where
    is_there : (k : Waiter) (o : Option FileState) → file_waits k o ≡ true → is_some o ≡ true
    is_there k None waits = absurd (false≢true waits)
    is_there k (Some f) waits = refl
