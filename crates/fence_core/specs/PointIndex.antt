-- The points that pending watches wait for.
use Rattle.std.specs.Prelude.{◌≡◌, ℕ, zero, suc, nat_eq, nat_le, Bool, true, false, ◌&&◌, List, [], filter, length, slice_index_or}
use Rattle.std.specs.List.{list_any}
use Rattle.std.specs.List.Sorted.{IsStrictlySortedBy}
use Rattle.std.specs.Ordering.{nat_cmp, ordering_then}
use Rattle.std.specs.declared.cmp.Ordering.{Ordering}
use Rattle.point_core.specs.declared.entry.Point.{Point}
use Rattle.point_core.specs.Reach.{is_reached, value_at}
use Rattle.fence_core.specs.declared.watches.point_index.WaitingPoint.{WaitingPoint}
use Rattle.fence_core.specs.declared.watches.point_index.point_queue.Standing.{Standing}

-- a watch of that registration waits for the point
abbrev pub waiting : Point → ℕ → WaitingPoint
waiting p registration = record { ctx = p.ctx; value = p.value; registration = registration }

abbrev pub is_same : WaitingPoint → WaitingPoint → Bool
is_same a b = nat_eq a.ctx b.ctx && (nat_eq a.value b.value && nat_eq a.registration b.registration)

-- the value and the registration of a waiting point
abbrev pub standing_of : WaitingPoint → Standing
standing_of k = record { value = k.value; registration = k.registration }

abbrev pub is_alike : Standing → Standing → Bool
is_alike a b = nat_eq a.value b.value && nat_eq a.registration b.registration

-- whether it is in the queue of one context
abbrev pub has : List Standing → Standing → Bool
has queue s = list_any (is_alike s) queue

-- whether it is at or below the value
abbrev pub is_low : ℕ → Standing → Bool
is_low value s = nat_le s.value value

-- the queue of a context
abbrev pub queue_at : List (List Standing) → ℕ → List Standing
queue_at queues zero = []
queue_at queues (suc place) = slice_index_or queues place []

-- whether a watch is indexed at the point
abbrev pub holds : List (List Standing) → WaitingPoint → Bool
holds queues k = has (queue_at queues k.ctx) (standing_of k)

-- whether it is one of these points, at that registration
abbrev pub is_of : List Point → ℕ → WaitingPoint → Bool
is_of points registration k = list_any (λ p. is_same (waiting p registration) k) points

-- one of the points, which is above the reach
pub record IsOneAbove (reach : List ℕ) (points : List Point) (p : Point) : Type 0 where
  pub member : (r : ℕ) → is_of points r (waiting p r) ≡ true
  pub above : is_reached reach p ≡ false

-- whether it is of that context, at or below the value
abbrev pub is_due : ℕ → ℕ → WaitingPoint → Bool
is_due ctx value k = nat_eq k.ctx ctx && nat_le k.value value

-- how many of them pass the test
abbrev pub number : (Standing → Bool) → List Standing → ℕ
number test queue = length (filter test queue)

-- how many are due in a context
abbrev pub number_due : ℕ → ℕ → List (List Standing) → ℕ
number_due ctx value queues = number (is_low value) (queue_at queues ctx)

-- no point of the context is at or below the value
abbrev pub NoneDue : ℕ → ℕ → List (List Standing) → Type 0
NoneDue ctx value queues = (k : WaitingPoint) → is_due ctx value k ≡ true → holds queues k ≡ false

-- each is above the reach
abbrev pub AreAbove : List (List Standing) → List ℕ → Type 0
AreAbove queues reach = (k : WaitingPoint) → holds queues k ≡ true → is_due k.ctx (value_at reach k.ctx) k ≡ false

-- by value, and by registration at one value
abbrev pub order : Standing → Standing → Ordering
order a b = ordering_then (nat_cmp a.value b.value) (nat_cmp a.registration b.registration)

-- the watches are in that order, and none comes twice
abbrev pub IsRising : List Standing → Type 0
IsRising queue = IsStrictlySortedBy order queue
