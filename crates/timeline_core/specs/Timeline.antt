-- Named timelines, in order of making.
use Rattle.std.specs.Prelude.{ℕ, ◌+◌, ◌-◌, ◌^◌, ◌≤◌, nat_le, Bool, ◌&&◌, if◌then◌else◌, List, ◌++◌, length, map, replicate, Option, None, Some, option_map, unwrap_or, slice_get}
use Rattle.std.specs.List.{position_from}
use Rattle.point_core.specs.declared.context.TheConstants.{CONTEXTS}
use Rattle.point_core.specs.declared.clocks.Clock.{Clock}
use Rattle.point_core.specs.declared.refusal.Refusal.{Refusal}
use Rattle.point_core.specs.declared.refusal.Refusal.TheVariants.{NoEntry, Cancelled, Overflow}
use Rattle.point_core.specs.declared.timeline_row.TimelineRow.{TimelineRow}
use Rattle.point_core.specs.Clocks.{clock_of, new_clock, closed_clock, clock_at, reach_of_clocks}
use Rattle.point_core.specs.Named.{same_name, has_named, named, HasDistinctNames}

-- a timeline as callers see it
pub record Timeline : Type 0 where
  pub name : List ℕ
  pub value : ℕ
  pub closed : Bool

-- the timeline with that name and clock
abbrev pub timeline_of : List ℕ → Clock → Timeline
timeline_of name clock = record { name = name; value = clock.value; closed = clock.closed }

-- the timeline's value, and whether it is closed
abbrev pub own_clock : Timeline → Clock
own_clock t = clock_of t.value t.closed

-- a timeline begins at 0
abbrev pub new_timeline : List ℕ → Timeline
new_timeline name = timeline_of name new_clock

-- whether the timeline has that name
abbrev pub is_named : List ℕ → Timeline → Bool
is_named name t = same_name t.name name

-- the names, in order of making
abbrev pub names_of : List Timeline → List (List ℕ)
names_of ts = map (λ t. t.name) ts

-- the clocks, in order of making
abbrev pub own_clocks : List Timeline → List Clock
own_clocks ts = map own_clock ts

-- whether there is a timeline of that name
abbrev pub has_timeline : List Timeline → List ℕ → Bool
has_timeline ts name = has_named (λ (t : Timeline). t.name) ts name

-- the timeline of that name
abbrev pub timeline_at : List Timeline → List ℕ → Option Timeline
timeline_at ts name = named (λ (t : Timeline). t.name) ts name

-- its number by order of making, from 1, or 0 if there is none
abbrev pub context_of : List Timeline → List ℕ → ℕ
context_of ts name = unwrap_or (position_from (is_named name) 1 ts) 0

-- the name of the timeline of that context, a number from 1; none if no timeline was made of it
abbrev pub name_at : List Timeline → ℕ → Option (List ℕ)
name_at ts ctx = option_map (λ t. t.name) (slice_get ts (ctx - 1))

-- the clock of each context, a new one if no timeline was made
abbrev pub clocks_of : List Timeline → List Clock
clocks_of ts = own_clocks ts ++ replicate (CONTEXTS - length ts) new_clock

-- what each context has reached: its value, or the greatest one if its timeline is closed
abbrev pub reach_of : List Timeline → List ℕ
reach_of ts = reach_of_clocks (clocks_of ts)

-- The clock of the timeline of that name. Clauses speak of it only when `has_timeline` holds: for any other name it is the clock
-- of context 1.
abbrev pub clock_named : List Timeline → List ℕ → Clock
clock_named ts name = clock_at (clocks_of ts) (context_of ts name)

-- the value of the timeline of that name
abbrev pub value_of : List Timeline → List ℕ → ℕ
value_of ts name = (clock_named ts name).value

-- there is a timeline of that name, and it is closed
abbrev pub is_closed : List Timeline → List ℕ → Bool
is_closed ts name = has_timeline ts name && (clock_named ts name).closed

-- the timeline once n is added to its value
abbrev pub raised_by : ℕ → Timeline → Timeline
raised_by n t = timeline_of t.name (clock_of (t.value + n) t.closed)

-- the timeline of that name rises by n, and no other changes
abbrev pub raised : List Timeline → List ℕ → ℕ → List Timeline
raised ts name n = map (λ t. if is_named name t then raised_by n t else t) ts

-- a closed timeline keeps its name and its value
abbrev pub closed_timeline : Timeline → Timeline
closed_timeline t = timeline_of t.name (closed_clock (own_clock t))

-- the timeline of that name is closed, and no other changes
abbrev pub shut : List Timeline → List ℕ → List Timeline
shut ts name = map (λ t. if is_named name t then closed_timeline t else t) ts

-- why the timeline of that name can't rise or close: there is none, or it is closed
abbrev pub cause_if_not_open : List Timeline → List ℕ → Option Refusal
cause_if_not_open ts name =
    if has_timeline ts name then (if is_closed ts name then Some Cancelled else None) else Some NoEntry

-- why an increment of the timeline of that name by n is refused
abbrev pub cause_to_refuse_inc : List Timeline → List ℕ → ℕ → Option Refusal
cause_to_refuse_inc ts name n =
    if has_timeline ts name
    then (if is_closed ts name then Some Cancelled else if nat_le (2 ^ 64) (value_of ts name + n) then Some Overflow else None)
    else Some NoEntry

abbrev pub row_of : Timeline → TimelineRow
row_of t = record { name = t.name; value = t.value; closed = t.closed }

-- a row for each, in order of making
abbrev pub rows_of : List Timeline → List TimelineRow
rows_of ts = map row_of ts

-- names are distinct, and there are no more timelines than contexts
pub record AreTimelines (ts : List Timeline) : Type 0 where
  pub distinct : HasDistinctNames (λ (t : Timeline). t.name) ts
  pub room : length ts ≤ CONTEXTS
