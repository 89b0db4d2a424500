-- Files that are being made.
use Rattle.std.specs.Prelude.{ℕ, List, [], Option, None, Some}
use Rattle.point_core.specs.declared.entry.Point.{Point}
use Rattle.point_core.specs.Latest.{points_above}
use Rattle.syncfile_core.specs.declared.draft.Draft.{Draft}
use Rattle.syncfile_core.specs.SyncFile.{File, file_of}

-- the file that a draft becomes
abbrev pub drafted : List ℕ → Draft → File
drafted name d = file_of name d.points.items d.floor

-- the points above the reach in a table of latest points; without a table, none
abbrev pub pending_of : Option (List ℕ) → List ℕ → List Point
pending_of None reach = []
pending_of (Some latest) reach = points_above latest reach
