-- Pending watches, as contracts see them.
use Rattle.std.specs.Prelude.{◌≡◌, ℕ, ◌==◌, ◌≤◌, nat_eq, Bool, List, length, map}
use Rattle.std.specs.List.{IsDistinct}
use Rattle.point_core.specs.declared.entry.Point.{Point}
use Rattle.point_core.specs.declared.entry.Entry.{Entry}
use Rattle.point_core.specs.Agreement.{AgreesAbove, as_entries}
use Rattle.fence_core.specs.declared.watches.TheConstants.{WATCHES}

-- a cookie, and the points of the fence that it was registered on
pub record Watch : Type 0 where
  pub cookie : ℕ
  pub points : List Point

abbrev pub watch_of : ℕ → List Point → Watch
watch_of cookie points = record { cookie = cookie; points = points }

-- the pending watches by registration, how many were ever registered, and the last reach that was handed in
pub record Registry : Type 0 where
  pub pending : List Watch
  pub made : ℕ
  pub reach : List ℕ

abbrev pub registry_of : List Watch → ℕ → List ℕ → Registry
registry_of pending made reach = record { pending = pending; made = made; reach = reach }

-- whether the watch is known by that cookie
abbrev pub is_for : ℕ → Watch → Bool
is_for cookie w = w.cookie == cookie

abbrev pub cookies_of : List Watch → List ℕ
cookies_of ws = map (λ (w : Watch). w.cookie) ws

-- no cookie is pending twice, and there are no more watches than there can be
pub record ArePending (ws : List Watch) : Type 0 where
  pub distinct : IsDistinct nat_eq (cookies_of ws)
  pub room : length ws ≤ WATCHES

-- of things that have a cookie and a put set: the watch has the thing's cookie, and its points agree above the reach with
-- the put set
pub record IsWatchOf {X : Type 0} (cookie_of : X → ℕ) (put_of : X → List Entry) (reach : List ℕ)
    (w : Watch) (x : X) : Type 0 where
  pub cookie : w.cookie ≡ cookie_of x
  pub agrees : AgreesAbove reach (as_entries w.points) (put_of x)
