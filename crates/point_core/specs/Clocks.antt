-- The clock of each context: its value, and whether it is closed.
use Rattle.std.specs.Prelude.{◌≡◌, ℕ, ◌-◌, Bool, true, false, nat_le, max, if◌then◌else◌, ◌&&◌, not, List, length, map, get_or, set}
use Rattle.std.specs.List.{list_all, list_any}
use Rattle.point_core.specs.declared.context.TheConstants.{CONTEXTS}
use Rattle.point_core.specs.declared.clocks.Clock.{Clock}
use Rattle.point_core.specs.declared.entry.Point.{Point}
use Rattle.point_core.specs.declared.status.Status.{Status}
use Rattle.point_core.specs.declared.status.Status.TheVariants.{Active, Signalled, Cancelled}
use Rattle.point_core.specs.Reach.{GREATEST, is_reached}

abbrev pub clock_of : ℕ → Bool → Clock
clock_of value closed = record { value = value; closed = closed }

abbrev pub open_clock : ℕ → Clock
open_clock value = clock_of value false

-- a context begins at 0
abbrev pub new_clock : Clock
new_clock = open_clock 0

-- the clock of a context from 1 to CONTEXTS; a new clock for any other
abbrev pub clock_at : List Clock → ℕ → Clock
clock_at clocks ctx = get_or clocks (ctx - 1) new_clock

-- the clocks with the clock of one context replaced
abbrev pub with_clock : List Clock → ℕ → Clock → List Clock
with_clock clocks ctx clock = set clocks (ctx - 1) clock

-- a closed context has no pending point: its reach is the greatest value
abbrev pub reached_by : Clock → ℕ
reached_by clock = if clock.closed then GREATEST else clock.value

abbrev pub reach_of_clocks : List Clock → List ℕ
reach_of_clocks clocks = map reached_by clocks

-- the clock with its value raised, if it is lower
abbrev pub raised_clock : Clock → ℕ → Clock
raised_clock clock value = clock_of (max clock.value value) clock.closed

-- a closed clock keeps its value
abbrev pub closed_clock : Clock → Clock
closed_clock clock = clock_of clock.value true

-- the value is past the one at which the clock was closed
abbrev pub is_past_closing : Clock → ℕ → Bool
is_past_closing clock value = clock.closed && not (nat_le value clock.value)

-- the point is past the value at which its context was closed
abbrev pub is_cancelled : List Clock → Point → Bool
is_cancelled clocks p = is_past_closing (clock_at clocks p.ctx) p.value

-- a status by two facts: all points are signalled or cancelled, and some point is cancelled
abbrev pub status_of : Bool → Bool → Status
status_of signalled cancelled = if signalled then (if cancelled then Cancelled else Signalled) else Active

-- a point at a value is cancelled if its context closed below the value
abbrev pub status_by : Clock → ℕ → Status
status_by clock value = status_of (nat_le value (reached_by clock)) (is_past_closing clock value)

abbrev pub status_at : List Clock → Point → Status
status_at clocks p = status_by (clock_at clocks p.ctx) p.value

-- some point is cancelled
abbrev pub some_cancelled : List Clock → List Point → Bool
some_cancelled clocks ps = list_any (is_cancelled clocks) ps

-- the status of points together: active while one is, else cancelled if one is, else signalled
abbrev pub common_status : List Clock → List Point → Status
common_status clocks ps = status_of (list_all (is_reached (reach_of_clocks clocks)) ps) (some_cancelled clocks ps)

-- a clock for each context, and the reach of the clocks
abbrev pub AreClocks : List Clock → List ℕ → Type 0
AreClocks clocks reach = (length clocks ≡ CONTEXTS) × (reach ≡ reach_of_clocks clocks)
