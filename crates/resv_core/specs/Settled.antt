-- The end of all clients' plans.
use Rattle.std.specs.Prelude.{ℕ, ◌==◌, ◌<◌, ◌≤◌, if◌then◌else◌, List, [], ◌∷◌, map, sum_by, All}
use Rattle.std.specs.List.{flat_map, range_with_len}
use Rattle.point_core.specs.declared.entry.Entry.{Entry}
use Rattle.point_core.specs.declared.listing.TopRow.{TopRow}
use Rattle.words_core.specs.theorem.Seat.{SeatModel, added_to}
use Rattle.resv_core.specs.declared.plan.Act.{Act}
use Rattle.resv_core.specs.declared.plan.Act.TheVariants.{Inc, Put, Look}
use Rattle.resv_core.specs.Resv.{entry_of, rows_of}

-- by how much an act advances the client's timeline
abbrev pub increment_by : Act → ℕ
increment_by (Inc n) = n
increment_by (Put into point usage) = 0
increment_by (Look into usage) = 0

-- by how much a plan advances it
abbrev pub increments_of : List Act → ℕ
increments_of acts = sum_by increment_by acts

-- the entry that an act puts into the buffer
abbrev pub put_by : ℕ → Act → List Entry
put_by buffer (Inc n) = []
put_by buffer (Put into point usage) = if into == buffer then entry_of point usage ∷ [] else []
put_by buffer (Look into usage) = []

-- the entries that a plan puts into the buffer
abbrev pub puts_of : ℕ → List Act → List Entry
puts_of buffer acts = flat_map (put_by buffer) acts

-- the entries that all plans put into the buffer
abbrev pub all_puts : ℕ → List (List Act) → List Entry
all_puts buffer plans = flat_map (puts_of buffer) plans

-- the value of each timeline after all plans
abbrev pub values_of : List (List Act) → List ℕ
values_of plans = map increments_of plans

-- the pending tops of each buffer after all plans, above these values
abbrev pub tables_of : ℕ → List (List Act) → List ℕ → List (List TopRow)
tables_of buffers plans values = map (λ buffer. rows_of (all_puts buffer plans) values) (range_with_len 0 buffers)

-- the act's context and buffer exist
abbrev pub IsWithin : ℕ → ℕ → Act → Type 0
IsWithin contexts buffers (Inc n) = Unit {0}
IsWithin contexts buffers (Put into point usage) = (into < buffers) × (point.ctx ≤ contexts)
IsWithin contexts buffers (Look into usage) = into < buffers

abbrev pub ArePlansWithin : ℕ → ℕ → List (List Act) → Type 0
ArePlansWithin contexts buffers plans = All (λ acts. All (IsWithin contexts buffers) acts) plans

-- the value of each context that a seat with all parts knows: the sum of its additions
abbrev pub gathered_values : ℕ → SeatModel → List ℕ
gathered_values contexts seat = map (added_to seat) (range_with_len 1 contexts)
