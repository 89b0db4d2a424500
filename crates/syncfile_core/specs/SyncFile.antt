-- A sync file, and the file of a name in a list of them.
use Rattle.std.specs.Prelude.{ℕ, List, [], ◌∷◌, replicate, Option}
use Rattle.point_core.specs.declared.entry.Point.{Point}
use Rattle.point_core.specs.declared.entry.Entry.{Entry}
use Rattle.point_core.specs.declared.context.TheConstants.{CONTEXTS}
use Rattle.point_core.specs.Agreement.{as_entries, AgreesAbove}
use Rattle.point_core.specs.Named.{named}

-- a sync file: its name, its points by rising context, and the reach above which they were listed
pub record File : Type 0 where
  pub name : List ℕ
  pub points : List Point
  pub floor : List ℕ

abbrev pub file_of : List ℕ → List Point → List ℕ → File
file_of name points floor = record { name = name; points = points; floor = floor }

-- a file of one point, signalled or not
abbrev pub plain_file : List ℕ → Point → File
plain_file name point = file_of name (point ∷ []) (replicate CONTEXTS 0)

-- above its floor, the file agrees with the set (it abstracts to the set)
abbrev pub StandsFor : File → List Entry → Type 0
StandsFor f set = AgreesAbove f.floor (as_entries f.points) set

abbrev pub file_name : File → List ℕ
file_name f = f.name

-- the file of that name
abbrev pub file_at : List File → List ℕ → Option File
file_at fs name = named file_name fs name
