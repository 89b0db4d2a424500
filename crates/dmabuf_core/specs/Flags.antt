-- The sync flags: which fences an export gives, and which an import puts in.
use Rattle.std.specs.Prelude.{ℕ, ◌==◌, Bool, ◌&&◌, nat_le, if◌then◌else◌, List, map, filter}
use Rattle.point_core.specs.declared.entry.Entry.{Entry}
use Rattle.point_core.specs.declared.entry.Usage.{Usage}
use Rattle.point_core.specs.declared.entry.Usage.TheVariants.{Write, Read}
use Rattle.point_core.specs.Usage.{usage_number}
use Rattle.point_core.specs.Agreement.{as_entry}
use Rattle.dmabuf_core.specs.declared.flags.SyncFlags.{SyncFlags}
use Rattle.dmabuf_core.specs.declared.flags.SyncFlags.TheVariants as flags

-- the kernel's numbers
abbrev pub flags_number : SyncFlags → ℕ
flags_number flags.Read = 1
flags_number flags.Write = 2
flags_number flags.ReadWrite = 3

-- reading, writing or both, and no other bits
abbrev pub is_sync_flags : ℕ → Bool
is_sync_flags flags = nat_le 1 flags && nat_le flags 3

-- a reader waits for writers, and a writer for readers too
abbrev pub export_usage : ℕ → Usage
export_usage flags = if flags == 1 then Write else Read

-- a reader's usage, if it only reads, else a writer's
abbrev pub import_usage : ℕ → Usage
import_usage flags = if flags == 1 then Read else Write

-- the entry has that usage or a stronger one
abbrev pub is_within : Usage → Entry → Bool
is_within usage e = nat_le (usage_number e.usage) (usage_number usage)

abbrev pub at_strongest : Entry → Entry
at_strongest e = as_entry e.point

abbrev pub with_usage : Usage → Entry → Entry
with_usage usage e = record { point = e.point; usage = usage }

-- the entries of a file that is exported from a buffer with these entries
abbrev pub exported : ℕ → List Entry → List Entry
exported flags es = map at_strongest (filter (is_within (export_usage flags)) es)

-- the entries that an import of a file with these entries puts into a buffer
abbrev pub imported : ℕ → List Entry → List Entry
imported flags es = map (with_usage (import_usage flags)) es
