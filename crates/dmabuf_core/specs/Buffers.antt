-- The buffers by name, in order of making.
use Rattle.std.specs.Prelude.{◌≡◌, ◌≢◌, ℕ, ◌≤◌, Bool, nat_lt, if◌then◌else◌, List, [], length, All, Option, None, Some, is_some, option_map, unwrap_or}
use Rattle.std.specs.List.{IsDistinct}
use Rattle.std.specs.Map.{keys_of, values_of, lookup}
use Rattle.point_core.specs.Named.{same_name}
use Rattle.point_core.specs.declared.entry.Entry.{Entry}
use Rattle.point_core.specs.declared.refusal.Refusal.{Refusal}
use Rattle.point_core.specs.declared.refusal.Refusal.TheVariants.{NoEntry, Exists, Flags, Limit}
use Rattle.point_core.specs.declared.refusal.LimitKind.TheVariants.{Buffers as BuffersKind}
use Rattle.resv_core.specs.Resv.{Reservation, IsTable}
use Rattle.point_core.specs.declared.limits.TheConstants.{BUFFERS}
use Rattle.dmabuf_core.specs.Flags.{is_sync_flags}

-- a buffer is its name and its table
abbrev pub Buffer : Type 0
Buffer = List ℕ × Reservation

-- the table of the buffer with that name
abbrev pub table_at : List Buffer → List ℕ → Option Reservation
table_at bs name = lookup (same_name name) bs

abbrev pub has_buffer : List Buffer → List ℕ → Bool
has_buffer bs name = is_some (table_at bs name)

-- the entries of that table
abbrev pub entries_of : List Buffer → List ℕ → List Entry
entries_of bs name = unwrap_or (option_map (λ (t : Reservation). t.entries) (table_at bs name)) []

abbrev pub names_of : List Buffer → List (List ℕ)
names_of bs = keys_of bs

-- names are distinct, there are at most BUFFERS, and each table has its places
pub record AreBuffers (bs : List Buffer) : Type 0 where
  pub distinct : IsDistinct (same_name) (names_of bs)
  pub within : length bs ≤ BUFFERS
  pub tables : All IsTable (values_of bs)

-- the buffers are the same, in the same order, and only the one with that name may have another table
pub record OnlyChanges (name : List ℕ) (old new : List Buffer) : Type 0 where
  pub names : names_of new ≡ names_of old
  pub others : (other : List ℕ) → other ≢ name → table_at new other ≡ table_at old other

-- the cause to refuse to make a buffer of that name
abbrev pub cause_to_refuse : List Buffer → List ℕ → Option Refusal
cause_to_refuse bs name =
    if has_buffer bs name then Some Exists else if nat_lt (length bs) BUFFERS then None else Some (Limit BuffersKind)

-- the cause to refuse a call on the buffer with that name
abbrev pub cause_without : List Buffer → List ℕ → Option Refusal
cause_without bs name = if has_buffer bs name then None else Some NoEntry

-- the cause to refuse an export or import with those flags
abbrev pub cause_by_flags : List Buffer → List ℕ → ℕ → Option Refusal
cause_by_flags bs name flags = if has_buffer bs name then (if is_sync_flags flags then None else Some Flags) else Some NoEntry
