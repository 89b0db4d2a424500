-- The pending watches by cookie, each with its place in the index, and the same watches by registration.
use Rattle.std.specs.Prelude.{ℕ, nat_eq, if◌then◌else◌, List, [], ◌∷◌, map, Option, None, Some}
use Rattle.std.specs.Map.{lookup, values_of}
use Rattle.std.specs.BTreeMap.{insert_entry}
use Rattle.std.specs.Ordering.{nat_cmp}
use Rattle.fence_core.specs.Fence.{members_of}
use Rattle.fence_core.specs.Registration.{cookie_of}
use Rattle.fence_core.specs.Watch.{Watch, watch_of}
use Rattle.fence_core.specs.declared.watches.pending.PendingWatch.{PendingWatch}

-- the watches by cookie
abbrev pub Places : Type 0
Places = List (ℕ × PendingWatch)

abbrev pub watch_in : PendingWatch → Watch
watch_in w = watch_of (cookie_of w.place.registration) (members_of w.fence)

abbrev pub watch_if_any : Option PendingWatch → Option Watch
watch_if_any None = None
watch_if_any (Some w) = Some (watch_in w)

-- the watch, if it is of that registration
abbrev pub if_of : ℕ → Option PendingWatch → Option PendingWatch
if_of r None = None
if_of r (Some w) = if nat_eq r w.place.registration then Some w else None

-- the pending watch of a registration, which its cookie finds
abbrev pub pending_at : Places → ℕ → Option PendingWatch
pending_at places r = if_of r (lookup (nat_eq (cookie_of r)) places)

abbrev pub found : Places → ℕ → Option Watch
found places r = watch_if_any (pending_at places r)

abbrev pub by_registration : Places → List (ℕ × Watch)
by_registration places = map (λ (e : ℕ × PendingWatch). (e.1.place.registration, watch_in e.1)) places

-- the entries by rising number; of equal numbers the first counts
abbrev pub in_order : {X : Type 0} → List (ℕ × X) → List (ℕ × X)
in_order [] = []
in_order (e ∷ es) = insert_entry nat_cmp (in_order es) e.0 e.1

-- the watches by rising registration
abbrev pub watches_of : Places → List Watch
watches_of places = values_of (in_order (by_registration places))
