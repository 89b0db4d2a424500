-- Queues of standing watches: their order, and which watches they have. The index of queues.
use Rattle.std.proofs.Common.{◌≡◌, ◌≢◌, ℕ, ◌+◌, length, zero, suc, get_or, set, ◌<◌, ◌≤◌, nat_eq, nat_le, ◌⊎◌, inl, inr, Bool, true, false, not, ◌&&◌, ◌||◌, refl, sym, ap, ◌∙◌, subst, List, [], ◌∷◌, ◌++◌, Result, Ok, Err, OnOk, arith}
use Rattle.std.specs.declared.cmp.Ordering.{Ordering}
use Rattle.std.specs.declared.cmp.Ordering.TheVariants.{Less, Equal, Greater}
use Rattle.std.specs.Ordering.{is_eq, nat_cmp, ordering_then}
use Rattle.std.specs.List.{AllByRecursion}
use Rattle.std.specs.List.Sorted.{IsStrictlySortedBy}
use Rattle.std.proofs.lemmas.Bool.{and_parts, and_from, leb-true, eqb-true, eq-eqb, cases_Bool, cases_lt, false≢true}
use Rattle.std.proofs.lemmas.Bool.Decides.{nat_tests}
use Rattle.std.proofs.lemmas.Cmp.{ranked}
use Rattle.std.proofs.lemmas.List.{get_or-set_same, get_or-set_other}
use Rattle.point_core.specs.declared.entry.Point.{Point}
use Rattle.point_core.specs.Reach.{is_reached}
use Rattle.fence_core.specs.Fence.{are_reached}
use Rattle.fence_core.specs.PointIndex.{waiting, is_same, standing_of, is_alike, has, is_low, queue_at, holds, is_of, is_due, number, number_due, order, IsRising}
use Rattle.fence_core.specs.declared.watches.point_index.WaitingPoint.{WaitingPoint}
use Rattle.fence_core.specs.declared.watches.point_index.point_queue.Standing.{Standing}

pub is_eq-nat_cmp : (x y : ℕ) → is_eq (nat_cmp x y) ≡ nat_eq x y
is_eq-nat_cmp x y = grind (arith, nat_tests)

pub less-nat : (x y : ℕ) → nat_cmp x y ≡ Less → x < y
less-nat x y e = ranked x y Less (sym e)

pub equal-nat : (x y : ℕ) → nat_cmp x y ≡ Equal → x ≡ y
equal-nat x y e = ranked x y Equal (sym e)

less-value : (o p : Ordering) → ordering_then o p ≡ Less → (o ≡ Less) ⊎ (o ≡ Equal)
less-value Less p h = inl refl
less-value Equal p h = inr refl
less-value Greater p h = absurd (cc)

order-value : (a b : Standing) → order a b ≡ Less → a.value ≤ b.value
order-value a b less = elim (less-value _ _ less) [
  | inl below ↦ let low = less-nat a.value b.value below in omega arith
  | inr equal ↦ let is = equal-nat a.value b.value equal in omega arith
]

-- two that are alike are one
pub one_standing : (a b : Standing) → is_alike a b ≡ true → a ≡ b
one_standing a b alike =
    let parts = and_parts (nat_eq a.value b.value) (nat_eq a.registration b.registration) alike in
    λ i. record { value = eqb-true a.value b.value parts.0 i; registration = eqb-true a.registration b.registration parts.1 i }

pub alike_itself : (a : Standing) → is_alike a a ≡ true
alike_itself a = and_from (nat_eq a.value a.value) (nat_eq a.registration a.registration) (eq-eqb a.value a.value refl) (eq-eqb a.registration a.registration refl)

-- those after the first of a queue stand no lower
later-least : (a s : Standing) (q : List Standing) → AllByRecursion (λ y. order a y ≡ Less) q → has q s ≡ true → a.value ≤ s.value
later-least a s [] all there = absurd (cc)
later-least a s (y ∷ q) all there = elim (cases_Bool (is_alike s y)) [
  | inl alike ↦ let low = order-value a y all.0 in let is : s.value ≡ y.value = ap (λ (t : Standing). t.value) (one_standing s y alike) in omega arith
  | inr apart ↦ later-least a s q all.1 (sym (ap (λ b. b || has q s) apart) ∙ there)
]

-- none stands lower than the first
pub first-least : (q rest : List Standing) (first s : Standing) → IsRising q → q ≡ first ∷ rest → has q s ≡ true → first.value ≤ s.value
unfolding IsStrictlySortedBy
first-least q rest first s rising is there =
    let parts = subst IsRising is rising in
    elim (cases_Bool (is_alike s first)) [
      | inl alike ↦ let same : s.value ≡ first.value = ap (λ (t : Standing). t.value) (one_standing s first alike) in omega arith
      | inr apart ↦ later-least first s rest parts.0 (sym (ap (λ b. b || has rest s) apart) ∙ sym (ap (λ xs. has xs s) is) ∙ there)
    ]

-- without the first
pub IsRising-rest : (q rest : List Standing) (first : Standing) → IsRising q → q ≡ first ∷ rest → IsRising rest
unfolding IsStrictlySortedBy
IsRising-rest q rest first rising is = (subst IsRising is rising).1

pub has-first : (q rest : List Standing) (first : Standing) → q ≡ first ∷ rest → has q first ≡ true
has-first q rest first is = ap (λ xs. has xs first) is ∙ ap (λ b. b || has rest first) (alike_itself first)

-- the index: no queues, and queues of which one has changed
pub holds-nothing : (queues : List (List Standing)) (k : WaitingPoint) → queues ≡ [] → holds queues k ≡ false
holds-nothing queues k is = ap (λ qs. holds qs k) is ∙ by k.ctx
  where
    by : (ctx : ℕ) → has (queue_at [] ctx) (standing_of k) ≡ false
    by zero = refl
    by (suc place) = refl

pub holds-same : (old new : List (List Standing)) (k : WaitingPoint) → queue_at new k.ctx ≡ queue_at old k.ctx → holds new k ≡ holds old k
holds-same old new k is = ap (λ q. has q (standing_of k)) is

pub queue_at-set : (queues : List (List Standing)) (place : ℕ) (q : List Standing) (ctx : ℕ) → place < length queues → suc place ≡ ctx → queue_at (set queues place q) ctx ≡ q
queue_at-set queues place q ctx low is = ap (queue_at (set queues place q)) (sym is) ∙ get_or-set_same queues place q [] low

pub queue_at-other : (queues : List (List Standing)) (place : ℕ) (q : List Standing) (ctx : ℕ) → suc place ≢ ctx → queue_at (set queues place q) ctx ≡ queue_at queues ctx
queue_at-other queues place q zero other = refl
queue_at-other queues place q (suc at) other = get_or-set_other queues place at q [] (λ is. other (ap suc (sym is)))

past-suc : (queues : List (List Standing)) (place : ℕ) → length queues ≤ place → queue_at queues (suc place) ≡ []
past-suc [] place high = refl
past-suc (q ∷ queues) zero high = absurd (omega arith)
past-suc (q ∷ queues) (suc place) high = past-suc queues place (omega arith)

pub queue_at-past : (queues : List (List Standing)) (place ctx : ℕ) → length queues ≤ place → place + 1 ≡ ctx → queue_at queues ctx ≡ []
queue_at-past queues place ctx high is =
    let next : suc place ≡ ctx = omega (arith, is) in
    ap (queue_at queues) (sym next) ∙ past-suc queues place high

-- a watch is indexed only where there is a queue
has-within : (queues : List (List Standing)) (ctx : ℕ) (s : Standing) → has (queue_at queues ctx) s ≡ true → (1 ≤ ctx) × (ctx ≤ length queues)
has-within queues zero s there = absurd (cc)
has-within queues (suc place) s there = elim (cases_lt place (length queues)) [
  | inl low ↦ (omega arith, omega arith)
  | inr high ↦ absurd (false≢true (sym (ap (λ q. has q s) (past-suc queues place high)) ∙ there))
]

pub holds-within : (queues : List (List Standing)) (k : WaitingPoint) → holds queues k ≡ true → (1 ≤ k.ctx) × (k.ctx ≤ length queues)
holds-within queues k there = has-within queues k.ctx (standing_of k) there

pub queue_at-push : (queues : List (List Standing)) (ctx : ℕ) → queue_at (queues ++ [] ∷ []) ctx ≡ queue_at queues ctx
queue_at-push queues zero = refl
queue_at-push [] (suc zero) = refl
queue_at-push [] (suc (suc place)) = refl
queue_at-push (q ∷ queues) (suc zero) = refl
queue_at-push (q ∷ queues) (suc (suc place)) = queue_at-push queues (suc place)

-- the queue at a place
index-suc : (queues : List (List Standing)) (place : ℕ) (d : List Standing) → place < length queues → queue_at queues (suc place) ≡ get_or queues place d
index-suc [] place d low = absurd (omega arith)
index-suc (p ∷ queues) zero d low = refl
index-suc (p ∷ queues) (suc place) d low = index-suc queues place d (omega arith)

pub queue_at-index : (queues : List (List Standing)) (place ctx : ℕ) (d : List Standing) → place < length queues → place + 1 ≡ ctx → queue_at queues ctx ≡ get_or queues place d
queue_at-index queues place ctx d low is =
    let next : suc place ≡ ctx = omega (arith, is) in
    ap (queue_at queues) (sym next) ∙ index-suc queues place d low

-- one more watch in the queue of its context, and one less
pub holds-put : (old new : List (List Standing)) (key k : WaitingPoint) → ((ctx : ℕ) → key.ctx ≢ ctx → queue_at new ctx ≡ queue_at old ctx) → ((s : Standing) → has (queue_at new key.ctx) s ≡ (is_alike (standing_of key) s || has (queue_at old key.ctx) s)) → holds new k ≡ (is_same key k || holds old k)
holds-put old new key k others put = elim (cases_Bool (nat_eq key.ctx k.ctx)) [
  | inl same ↦
      let is = eqb-true key.ctx k.ctx same in
      ap (λ c. has (queue_at new c) (standing_of k)) (sym is) ∙ put (standing_of k)
      ∙ ap (λ c. is_alike (standing_of key) (standing_of k) || has (queue_at old c) (standing_of k)) is
      ∙ sym (ap (λ b. (b && is_alike (standing_of key) (standing_of k)) || holds old k) same)
  | inr other ↦
      holds-same old new k (others k.ctx (λ is. false≢true (sym other ∙ eq-eqb key.ctx k.ctx is)))
      ∙ sym (ap (λ b. (b && is_alike (standing_of key) (standing_of k)) || holds old k) other)
]

pub holds-take : (old new : List (List Standing)) (key k : WaitingPoint) → ((ctx : ℕ) → key.ctx ≢ ctx → queue_at new ctx ≡ queue_at old ctx) → ((s : Standing) → has (queue_at new key.ctx) s ≡ (not (is_alike (standing_of key) s) && has (queue_at old key.ctx) s)) → holds new k ≡ (not (is_same key k) && holds old k)
holds-take old new key k others taken = elim (cases_Bool (nat_eq key.ctx k.ctx)) [
  | inl same ↦
      let is = eqb-true key.ctx k.ctx same in
      ap (λ c. has (queue_at new c) (standing_of k)) (sym is) ∙ taken (standing_of k)
      ∙ ap (λ c. not (is_alike (standing_of key) (standing_of k)) && has (queue_at old c) (standing_of k)) is
      ∙ sym (ap (λ b. not (b && is_alike (standing_of key) (standing_of k)) && holds old k) same)
  | inr other ↦
      holds-same old new k (others k.ctx (λ is. false≢true (sym other ∙ eq-eqb key.ctx k.ctx is)))
      ∙ sym (ap (λ b. not (b && is_alike (standing_of key) (standing_of k)) && holds old k) other)
]

-- how many are due after it
pub due-put : (ctx value : ℕ) (old new : List (List Standing)) (key : WaitingPoint) → ((c : ℕ) → key.ctx ≢ c → queue_at new c ≡ queue_at old c) → ((v : ℕ) → is_low v (standing_of key) ≡ false → number (is_low v) (queue_at new key.ctx) ≡ number (is_low v) (queue_at old key.ctx)) → is_due ctx value key ≡ false → number_due ctx value new ≡ number_due ctx value old
due-put ctx value old new key others high none = elim (cases_Bool (nat_eq key.ctx ctx)) [
  | inl same ↦
      let is = eqb-true key.ctx ctx same in
      ap (λ c. number (is_low value) (queue_at new c)) (sym is)
      ∙ high value (sym (ap (λ b. b && nat_le key.value value) same) ∙ none)
      ∙ ap (λ c. number (is_low value) (queue_at old c)) is
  | inr other ↦ ap (number (is_low value)) (others ctx (λ is. false≢true (sym other ∙ eq-eqb key.ctx ctx is)))
]

pub due-take : (ctx value : ℕ) (old new : List (List Standing)) (key : WaitingPoint) → ((v : ℕ) → is_low v (standing_of key) ≡ true → has (queue_at old key.ctx) (standing_of key) ≡ true → number (is_low v) (queue_at new key.ctx) < number (is_low v) (queue_at old key.ctx)) → is_due ctx value key ≡ true → holds old key ≡ true → number_due ctx value new < number_due ctx value old
due-take ctx value old new key fewer due there =
    let parts = and_parts (nat_eq key.ctx ctx) (nat_le key.value value) due in
    subst (λ c. number (is_low value) (queue_at new c) < number (is_low value) (queue_at old c)) (eqb-true key.ctx ctx parts.0) (fewer value parts.1 there)

-- two that are the same have the same parts
pub is_same-is : (a b : WaitingPoint) → is_same a b ≡ true → (a.ctx ≡ b.ctx) × (a.value ≡ b.value) × (a.registration ≡ b.registration)
is_same-is a b h =
    let first = and_parts (nat_eq a.ctx b.ctx) (nat_eq a.value b.value && nat_eq a.registration b.registration) h in
    let rest = and_parts (nat_eq a.value b.value) (nat_eq a.registration b.registration) first.1 in
    (eqb-true a.ctx b.ctx first.0, eqb-true a.value b.value rest.0, eqb-true a.registration b.registration rest.1)

-- an index of which one queue has one more watch, is as it was, or has one less
module _ (queues : List (List Standing)) (place : ℕ) (key : WaitingPoint) (d new : List Standing) (at : place + 1 ≡ key.ctx) (enough : key.ctx ≤ length queues) where
  below : place < length queues
  below = omega (arith, at, enough)

  next : suc place ≡ key.ctx
  next = omega (arith, at)

  was : queue_at queues key.ctx ≡ get_or queues place d
  was = queue_at-index queues place key.ctx d below at

  is_now : queue_at (set queues place new) key.ctx ≡ new
  is_now = queue_at-set queues place new key.ctx below next

  others : (ctx : ℕ) → key.ctx ≢ ctx → queue_at (set queues place new) ctx ≡ queue_at queues ctx
  others ctx apart = queue_at-other queues place new ctx (λ is. apart (sym next ∙ is))

  pub queue-put : ((s : Standing) → has new s ≡ (is_alike (standing_of key) s || has (get_or queues place d) s)) → (k : WaitingPoint) → holds (set queues place new) k ≡ (is_same key k || holds queues k)
  queue-put put k = holds-put queues (set queues place new) key k others (λ s. ap (λ q. has q s) is_now ∙ put s ∙ ap (λ q. is_alike (standing_of key) s || has q s) (sym was))

  pub queue-put_due : ((v : ℕ) → is_low v (standing_of key) ≡ false → number (is_low v) new ≡ number (is_low v) (get_or queues place d)) → (ctx value : ℕ) → is_due ctx value key ≡ false → number_due ctx value (set queues place new) ≡ number_due ctx value queues
  queue-put_due high ctx value none = due-put ctx value queues (set queues place new) key others (λ v past. ap (number (is_low v)) is_now ∙ high v past ∙ ap (number (is_low v)) (sym was)) none

  pub queue-same : new ≡ get_or queues place d → (k : WaitingPoint) → holds (set queues place new) k ≡ holds queues k
  queue-same is k = holds-same queues (set queues place new) k (elim (cases_Bool (nat_eq key.ctx k.ctx)) [
    | inl same ↦ ap (queue_at (set queues place new)) (sym (eqb-true key.ctx k.ctx same)) ∙ is_now ∙ is ∙ sym was ∙ ap (queue_at queues) (eqb-true key.ctx k.ctx same)
    | inr other ↦ others k.ctx (λ e. false≢true (sym other ∙ eq-eqb key.ctx k.ctx e))
  ])

  pub queue-taken : ((s : Standing) → has new s ≡ (not (is_alike (standing_of key) s) && has (get_or queues place d) s)) → (k : WaitingPoint) → holds (set queues place new) k ≡ (not (is_same key k) && holds queues k)
  queue-taken taken k = holds-take queues (set queues place new) key k others (λ s. ap (λ q. has q s) is_now ∙ taken s ∙ ap (λ q. not (is_alike (standing_of key) s) && has q s) (sym was))

  pub queue-fewer : ((v : ℕ) → is_low v (standing_of key) ≡ true → has (get_or queues place d) (standing_of key) ≡ true → number (is_low v) new < number (is_low v) (get_or queues place d)) → (ctx value : ℕ) → is_due ctx value key ≡ true → holds queues key ≡ true → number_due ctx value (set queues place new) < number_due ctx value queues
  queue-fewer fewer ctx value due there = due-take ctx value queues (set queues place new) key (λ v low had. subst (λ q. number (is_low v) (queue_at (set queues place new) key.ctx) < number (is_low v) q) (sym was) (subst (λ q. number (is_low v) q < number (is_low v) (get_or queues place d)) (sym is_now) (fewer v low (sym (ap (λ q. has q (standing_of key)) was) ∙ had)))) due there

-- a context that has no queue
pub holds-past : (queues : List (List Standing)) (place : ℕ) (k : WaitingPoint) → length queues ≤ place → place + 1 ≡ k.ctx → holds queues k ≡ false
holds-past queues place k high is = ap (λ q. has q (standing_of k)) (queue_at-past queues place k.ctx high is)

-- what is found in a context
pub due-at : (ctx value : ℕ) (k : WaitingPoint) → is_due ctx value k ≡ true → (k.ctx ≡ ctx) × (k.value ≤ value)
due-at ctx value k due =
    let parts = and_parts (nat_eq k.ctx ctx) (nat_le k.value value) due in
    (eqb-true k.ctx ctx parts.0, leb-true k.value value parts.1)

pub has-at : (queues : List (List Standing)) (q : List Standing) (ctx : ℕ) (k : WaitingPoint) → queue_at queues ctx ≡ q → k.ctx ≡ ctx → holds queues k ≡ has q (standing_of k)
has-at queues q ctx k own is = ap (λ c. has (queue_at queues c) (standing_of k)) is ∙ ap (λ xs. has xs (standing_of k)) own

-- what holds of the low ones of a queue holds of the due points of its context
pub OnOk-due : {X E : Type 0} (r : Result X E) (queues : List (List Standing)) (q : List Standing) (ctx value most : ℕ) (R : ℕ → Type 0) → queue_at queues ctx ≡ q → value ≡ most → OnOk r ((s : Standing) → is_low value s ≡ true → has q s ≡ true → R s.registration) → OnOk r ((k : WaitingPoint) → is_due ctx most k ≡ true → holds queues k ≡ true → R k.registration)
OnOk-due (Ok x) queues q ctx value most R own is low = λ k due there.
    let parts = and_parts (nat_eq k.ctx ctx) (nat_le k.value most) due in
    low (standing_of k) (ap (nat_le k.value) is ∙ parts.1) (sym (has-at queues q ctx k own (eqb-true k.ctx ctx parts.0)) ∙ there)
OnOk-due (Err e) queues q ctx value most R own is low = tt

pub alike-registration : (a b : Standing) → is_alike a b ≡ true → a.registration ≡ b.registration
alike-registration a b alike = ap (λ (s : Standing). s.registration) (one_standing a b alike)

pub and-right : (a b c : Bool) → c ≡ (a && b) → c ≡ true → b ≡ true
and-right a b c is there = (and_parts a b (sym is ∙ there)).1

-- two that are the same are one, and each is the same as itself
pub same_itself : (k : WaitingPoint) → is_same k k ≡ true
same_itself k = and_from (nat_eq k.ctx k.ctx) (nat_eq k.value k.value && nat_eq k.registration k.registration) (eq-eqb k.ctx k.ctx refl) (and_from (nat_eq k.value k.value) (nat_eq k.registration k.registration) (eq-eqb k.value k.value refl) (eq-eqb k.registration k.registration refl))

pub one_point : (a b : WaitingPoint) → is_same a b ≡ true → a ≡ b
one_point a b same = let is = is_same-is a b same in λ i. record { ctx = is.0 i; value = is.1 i; registration = is.2 i }

pub not_same : (a b : WaitingPoint) → a ≢ b → is_same a b ≡ false
not_same a b apart = elim (cases_Bool (is_same a b)) [
  | inl same ↦ absurd (apart (one_point a b same))
  | inr other ↦ other
]

pub same-one : (a b : WaitingPoint) → a ≡ b → is_same a b ≡ true
same-one a b is = sym (ap (is_same a) is) ∙ same_itself a

-- a point that is not there is not missed
pub holds-lacking : (queues : List (List Standing)) (key k : WaitingPoint) → holds queues key ≡ false → holds queues k ≡ (not (is_same key k) && holds queues k)
holds-lacking queues key k none = elim (cases_Bool (is_same key k)) [
  | inl same ↦ ap (holds queues) (sym (one_point key k same)) ∙ none ∙ sym (ap (λ b. not b && holds queues k) same)
  | inr other ↦ sym (ap (λ b. not b && holds queues k) other)
]

-- the point at a place is one of the points
pub is_of-at : (ps : List Point) (i : ℕ) (d : Point) (r : ℕ) → i < length ps → is_of ps r (waiting (get_or ps i d) r) ≡ true
is_of-at [] i d r low = absurd (omega arith)
is_of-at (p ∷ ps) zero d r low = ap (λ b. b || is_of ps r (waiting p r)) (same_itself (waiting p r))
is_of-at (p ∷ ps) (suc i) d r low = by (is_same (waiting p r) (waiting (get_or ps i d) r)) (is_of-at ps i d r (omega arith))
  where
    by : (b : Bool) → is_of ps r (waiting (get_or ps i d) r) ≡ true → (b || is_of ps r (waiting (get_or ps i d) r)) ≡ true
    by true there = refl
    by false there = there

-- if it is not reached, they are not all reached
pub unreached-at : (reach : List ℕ) (ps : List Point) (i : ℕ) (d : Point) → i < length ps → is_reached reach (get_or ps i d) ≡ false → are_reached reach ps ≡ false
unreached-at reach [] i d low past = absurd (omega arith)
unreached-at reach (p ∷ ps) zero d low past = ap (λ b. b && are_reached reach ps) past
unreached-at reach (p ∷ ps) (suc i) d low past = by (is_reached reach p) (unreached-at reach ps i d (omega arith) past)
  where
    by : (b : Bool) → are_reached reach ps ≡ false → (b && are_reached reach ps) ≡ false
    by true rest = rest
    by false rest = refl

-- one more point that is reached
pub reached-more : (reach : List ℕ) (ps : List Point) (p : Point) → are_reached reach ps ≡ true → is_reached reach p ≡ true → are_reached reach (ps ++ p ∷ []) ≡ true
reached-more reach [] p all last = ap (λ b. b && true) last
reached-more reach (q ∷ ps) p all last =
    let parts = and_parts (is_reached reach q) (are_reached reach ps) all in
    and_from (is_reached reach q) (are_reached reach (ps ++ p ∷ [])) parts.0 (reached-more reach ps p parts.1 last)
