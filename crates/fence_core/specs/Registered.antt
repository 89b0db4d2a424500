-- The parts of `Watches`: the pending watches by cookie, and the index of their points.
use Rattle.std.specs.Prelude.{◌≡◌, ℕ, ◌<◌, nat_eq, Bool, true, false, List, Some}
use Rattle.std.specs.List.{list_any, IsDistinct}
use Rattle.std.specs.Map.{keys_of, lookup}
use Rattle.point_core.specs.Reach.{value_at}
use Rattle.fence_core.specs.Fence.{members_of}
use Rattle.fence_core.specs.Watch.{ArePending}
use Rattle.fence_core.specs.Watches.{fires}
use Rattle.fence_core.specs.Pending.{Places, watches_of}
use Rattle.fence_core.specs.Registration.{numbered, cookie_of}
use Rattle.fence_core.specs.PointIndex.{holds, is_of, is_due, AreAbove}
use Rattle.fence_core.specs.declared.watches.pending.PendingWatch.{PendingWatch}
use Rattle.fence_core.specs.declared.watches.point_index.WaitingPoint.{WaitingPoint}
use Rattle.fence_core.specs.declared.watches.point_index.point_queue.Standing.{Standing}

-- the index holds the place of each pending watch, which is at one of the watch's points, and no other points
pub record IsIndexed (places : Places) (index : List (List Standing)) : Type 0 where
  pub owned : (k : WaitingPoint) → holds index k ≡ true →
      (w : PendingWatch) × (lookup (nat_eq (cookie_of k.registration)) places ≡ Some w)
      × (w.place ≡ k) × (is_of (members_of w.fence) k.registration k ≡ true)
  pub some : (cookie : ℕ) (w : PendingWatch) → lookup (nat_eq cookie) places ≡ Some w → holds index w.place ≡ true

-- each watch is kept under the cookie that its registration has
abbrev pub AreByCookie : Places → Type 0
AreByCookie places = (cookie : ℕ) (w : PendingWatch) → lookup (nat_eq cookie) places ≡ Some w →
    cookie_of w.place.registration ≡ cookie

-- no cookie is there twice, and each has the watch of its registration
pub record AreKept (places : Places) : Type 0 where
  pub distinct : IsDistinct nat_eq (keys_of places)
  pub own : AreByCookie places

-- the index has the place of each pending watch, which is kept under its own cookie
pub record ArePlaced (places : Places) (index : List (List Standing)) : Type 0 where
  pub indexed : IsIndexed places index
  pub kept : AreKept places

-- each registration is below the number ever made
pub record AreBefore (made : ℕ) (places : Places) : Type 0 where
  pub each : (cookie : ℕ) (w : PendingWatch) → lookup (nat_eq cookie) places ≡ Some w →
      w.place.registration < numbered made 0

pub record AreRegistered (places : Places) (made : ℕ) : Type 0 where
  pub pending : ArePending (watches_of places)
  pub kept : AreKept places
  pub before : AreBefore made places

-- if it says so, each point of the index is above the reach
abbrev pub IsSettled : Bool → List (List Standing) → List ℕ → Type 0
IsSettled is_settled index reach = is_settled ≡ true → AreAbove index reach

-- no pending watch fires at the reach
abbrev pub NoneFires : Places → List ℕ → Type 0
NoneFires places reach = list_any (fires reach) (watches_of places) ≡ false

-- the same watches are pending, and each of them has its old place or was moved above the reach
pub record AreMoved (reach : List ℕ) (before : Places) (was : List (List Standing)) (after : Places)
    (index : List (List Standing)) : Type 0 where
  pub placed : ArePlaced after index
  pub same : watches_of after ≡ watches_of before
  pub numbers : (made : ℕ) → AreBefore made before → AreBefore made after
  pub less : (k : WaitingPoint) → is_due k.ctx (value_at reach k.ctx) k ≡ true → holds index k ≡ true → holds was k ≡ true
