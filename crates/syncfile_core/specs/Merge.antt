-- The merge of files.
use Rattle.std.specs.Prelude.{◌≡◌, ℕ, List, fold, flat_map, length, All, if◌then◌else◌, Option, Some}
use Rattle.std.specs.List.{filter_map, list_all, AllZip}
use Rattle.point_core.specs.declared.refusal.Refusal.{Refusal}
use Rattle.point_core.specs.declared.refusal.Refusal.TheVariants.{NoEntry}
use Rattle.point_core.specs.declared.entry.Point.{Point}
use Rattle.point_core.specs.declared.entry.Entry.{Entry}
use Rattle.point_core.specs.Agreement.{as_entries, listing, HasContexts}
use Rattle.point_core.specs.Latest.{IsLatest}
use Rattle.point_core.specs.Reach.{later_values}
use Rattle.syncfile_core.specs.SyncFile.{File, file_of, StandsFor, file_at}
use Rattle.syncfile_core.specs.Files.{has_file, cause_to_refuse}

-- the files with these names, in the order of the names; a merge is refused if a name has none
abbrev pub files_at : List File → List (List ℕ) → List File
files_at fs names = filter_map (file_at fs) names

-- the cause to refuse to make a file of that name from files with these names
abbrev pub cause_to_refuse_merge : List File → List ℕ → List (List ℕ) → Option Refusal
cause_to_refuse_merge fs name inputs = if list_all (has_file fs) inputs then cause_to_refuse fs name else Some NoEntry

abbrev pub points_of : List File → List Point
points_of inputs = flat_map (λ (f : File). f.points) inputs

-- the maximum, for each context, of the reach and the files' floors
abbrev pub floor_of : List ℕ → List File → List ℕ
floor_of reach inputs = fold (λ floor (f : File). later_values floor f.floor) reach inputs

-- the pending points of all inputs, the latest for each context
abbrev pub merged_file : List ℕ → List File → List ℕ → File
merged_file name inputs reach = file_of name (listing (as_entries (points_of inputs)) 0 reach) (floor_of reach inputs)

-- the merge of the files with these names
abbrev pub merge_of : List File → List ℕ → List (List ℕ) → List ℕ → File
merge_of fs name inputs reach = merged_file name (files_at fs inputs) reach

-- if each input abstracts to a set, the file abstracts to the union of these sets
abbrev pub StandsForUnion : List File → File → Type 0
StandsForUnion inputs f = (sets : List (List Entry)) → AllZip StandsFor inputs sets → StandsFor f (flat_map (λ set. set) sets)

-- the files' floors have a value of each of n contexts
abbrev pub HaveFloors : ℕ → List File → Type 0
HaveFloors n inputs = All (λ (f : File). length f.floor ≡ n) inputs

-- the table has the latest point of each context in the reach and the files' points; `least` is the floor of their
-- merge
pub record IsGathered (table least reach : List ℕ) (inputs : List File) : Type 0 where
  pub latest : IsLatest table reach (as_entries (points_of inputs)) 0
  pub floor : least ≡ floor_of reach inputs
  pub contexts : HasContexts (as_entries (points_of inputs))
  pub floors : HaveFloors (length reach) inputs

-- it was gathered from some files
abbrev pub IsGatheredAbove : List ℕ → List ℕ → List ℕ → Type 0
IsGatheredAbove table least reach = (inputs : List File) × IsGathered table least reach inputs
