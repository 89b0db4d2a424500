-- The watches that a rise fires, by registration.
use Rattle.std.specs.Prelude.{◌≡◌, ℕ, true, if◌then◌else◌, List, map, Option, None, Some}
use Rattle.std.specs.List.Sorted.{IsStrictlySortedBy}
use Rattle.std.specs.Map.{lookup}
use Rattle.std.specs.BTreeMap.{is_at}
use Rattle.std.specs.Ordering.{nat_cmp}
use Rattle.fence_core.specs.Registration.{cookie_of}
use Rattle.fence_core.specs.Watch.{Watch}
use Rattle.fence_core.specs.Pending.{Places, found}
use Rattle.fence_core.specs.Watches.{fires}

-- the entry of the registration
abbrev pub at : {X : Type 0} → List (ℕ × X) → ℕ → Option X
at es r = lookup (is_at (nat_cmp r)) es

-- the cookie of the watch, if it fires
abbrev pub cookie_if_fires : List ℕ → Option Watch → Option ℕ
cookie_if_fires reach None = None
cookie_if_fires reach (Some w) = if fires reach w then Some w.cookie else None

-- the registrations, each with its cookie
abbrev pub with_cookies : List ℕ → List (ℕ × ℕ)
with_cookies fired = map (λ r. (r, cookie_of r)) fired

-- the watch of that registration was reported if it fires, and else not
abbrev pub IsReported : Places → List ℕ → List ℕ → ℕ → Type 0
IsReported places reach fired r = at (with_cookies fired) r ≡ cookie_if_fires reach (found places r)

-- no watch was reported that does not fire
abbrev pub AreOnlyFiring : Places → List ℕ → List ℕ → Type 0
AreOnlyFiring places reach fired =
    (r : ℕ) (cookie : ℕ) → at (with_cookies fired) r ≡ Some cookie → cookie_if_fires reach (found places r) ≡ Some cookie

-- the registrations rise, and each is of a watch that fires
pub record AreGathered (places : Places) (reach fired : List ℕ) : Type 0 where
  pub rising : IsStrictlySortedBy nat_cmp fired
  pub only_firing : AreOnlyFiring places reach fired

-- more were gathered, and what was reported still is
pub record HasGathered (places : Places) (reach before fired : List ℕ) : Type 0 where
  pub gathered : AreGathered places reach fired
  pub still : (r : ℕ) → IsReported places reach before r → IsReported places reach fired r

-- some watch fires
pub record Fires (places : Places) (reach : List ℕ) : Type 0 where
  pub registration : ℕ
  pub watch : Watch
  pub pending : found places registration ≡ Some watch
  pub fires : fires reach watch ≡ true
