-- Watches: which may be registered, and which fire at a rise.
use Rattle.std.specs.Prelude.{ℕ, ◌+◌, Bool, not, ◌&&◌, nat_eq, nat_lt, if◌then◌else◌, List, [], ◌∷◌, ◌++◌, length, filter, replicate, Option, None, Some}
use Rattle.std.specs.List.{list_any}
use Rattle.point_core.specs.declared.context.TheConstants.{CONTEXTS}
use Rattle.point_core.specs.declared.entry.Point.{Point}
use Rattle.point_core.specs.declared.refusal.Refusal.{Refusal}
use Rattle.point_core.specs.declared.refusal.Refusal.TheVariants.{Exists, Limit, Signalled}
use Rattle.point_core.specs.declared.refusal.LimitKind.TheVariants.{Watches as WatchesKind}
use Rattle.fence_core.specs.declared.watches.TheConstants.{WATCHES, WATCHES_EVER}
use Rattle.fence_core.specs.Fence.{are_reached}
use Rattle.fence_core.specs.Watch.{Watch, Registry, watch_of, registry_of, is_for, cookies_of}

abbrev pub no_watches : Registry
no_watches = registry_of [] 0 (replicate CONTEXTS 0)

-- whether a watch of that cookie is pending
abbrev pub has_watch : Registry → ℕ → Bool
has_watch ws cookie = list_any (is_for cookie) ws.pending

-- one more watch, the last, registered at this reach
abbrev pub with_watch : Registry → ℕ → List Point → List ℕ → Registry
with_watch ws cookie points reach = registry_of (ws.pending ++ watch_of cookie points ∷ []) (ws.made + 1) reach

-- all watches but the cookie's
abbrev pub without_watch : Registry → ℕ → Registry
without_watch ws cookie = registry_of (filter (λ w. not (is_for cookie w)) ws.pending) ws.made ws.reach

-- all watches but the cookies'
abbrev pub without_watches : Registry → List ℕ → Registry
without_watches ws cookies =
    registry_of (filter (λ (w : Watch). not (list_any (nat_eq w.cookie) cookies)) ws.pending) ws.made ws.reach

-- all of its points are reached
abbrev pub fires : List ℕ → Watch → Bool
fires reach w = are_reached reach w.points

-- the cookies of the watches that fire at this reach, by registration
abbrev pub fired_by : Registry → List ℕ → List ℕ
fired_by ws reach = cookies_of (filter (fires reach) ws.pending)

-- what a rise to this reach leaves: the watches that don't fire
abbrev pub after_rise_to : Registry → List ℕ → Registry
after_rise_to ws reach = registry_of (filter (λ w. not (fires reach w)) ws.pending) ws.made reach

-- there is a place for one more watch
abbrev pub has_room : Registry → Bool
has_room ws = nat_lt (length ws.pending) WATCHES && nat_lt ws.made WATCHES_EVER

-- why no watch of that cookie may be registered
abbrev pub cause_to_refuse : Registry → ℕ → Option Refusal
cause_to_refuse ws cookie = if has_watch ws cookie then Some Exists else if has_room ws then None else Some (Limit WatchesKind)

abbrev pub if_none : Option Refusal → Option Refusal → Option Refusal
if_none None next = next
if_none (Some cause) next = Some cause

-- why none of these points may be registered
abbrev pub cause_to_refuse_watch : Registry → ℕ → List Point → List ℕ → Option Refusal
cause_to_refuse_watch ws cookie points reach =
    if_none (cause_to_refuse ws cookie) (if are_reached reach points then Some Signalled else None)
