-- A reservation as its callers see it.
use Rattle.std.specs.Prelude.{◌≡◌, ℕ, ◌+◌, ◌≤◌, ◌<◌, ◌==◌, Bool, false, ◌&&◌, ◌||◌, nat_le, List, [], ◌∷◌, length, map, All, AllPairs}
use Rattle.std.specs.List.{flat_map}
use Rattle.point_core.specs.declared.entry.Point.{Point}
use Rattle.point_core.specs.declared.entry.Entry.{Entry}
use Rattle.point_core.specs.declared.entry.Usage.{Usage}
use Rattle.point_core.specs.declared.entry.Usage.TheVariants.{Kernel, Write, Read, Bookkeep}
use Rattle.point_core.specs.declared.listing.TopRow.{TopRow}
use Rattle.resv_core.specs.declared.resv.TheConstants.{PLACES}
use Rattle.point_core.specs.Usage.{usage_number}
use Rattle.point_core.specs.Reach.{value_at}
use Rattle.point_core.specs.Agreement.{HasContexts, covers, listing}

-- the entries, and the number of free places
pub record Reservation : Type 0 where
  pub entries : List Entry
  pub room : ℕ

-- no entries, and no places yet
abbrev pub empty : Reservation
empty = record { entries = []; room = 0 }

abbrev pub entry_of : Point → Usage → Entry
entry_of point usage = record { point = point; usage = usage }

-- what every reservation keeps
pub record IsTable (r : Reservation) : Type 0 where
  pub places : length r.entries + r.room ≤ PLACES
  pub contexts : HasContexts r.entries

-- the old entry may be replaced by the new one: it is signalled, or the new one covers it
abbrev pub gives_way : List ℕ → Entry → Entry → Bool
gives_way reach new old = nat_le old.point.value (value_at reach old.point.ctx) || covers new old

-- points that are put with one usage
abbrev pub entries_as : Usage → List Point → List Entry
entries_as usage points = map (λ point. entry_of point usage) points

-- every entry is pending, and none covers another
pub record IsTrimmed (reach : List ℕ) (es : List Entry) : Type 0 where
  pub pending : All (λ e. value_at reach e.point.ctx < e.point.value) es
  pub apart : AllPairs (λ e f. (covers e f ≡ false) × (covers f e ≡ false)) es

-- the entry is of the context
abbrev pub is_at : ℕ → Entry → Bool
is_at ctx e = e.point.ctx == ctx

-- the entry is of the context, and of that usage
abbrev pub is_of : Usage → ℕ → Entry → Bool
is_of usage ctx e = (usage_number e.usage == usage_number usage) && is_at ctx e

abbrev pub row_of : Usage → Point → TopRow
row_of usage point = record { usage = usage; ctx = point.ctx; point = point.value }

-- the pending tops at one usage, by rising context
abbrev pub rows_at : List Entry → List ℕ → Usage → List TopRow
rows_at es reach usage = map (row_of usage) (listing es (usage_number usage) reach)

-- the pending tops, from the strongest usage to the weakest
abbrev pub rows_of : List Entry → List ℕ → List TopRow
rows_of es reach = flat_map (rows_at es reach) (Kernel ∷ Write ∷ Read ∷ Bookkeep ∷ [])
