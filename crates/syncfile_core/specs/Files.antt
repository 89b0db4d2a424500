-- The files by name, in order of making.
use Rattle.std.specs.Prelude.{◌≡◌, ℕ, ◌<◌, ◌≤◌, Bool, nat_eq, nat_lt, if◌then◌else◌, List, All, map, length, take, Option, None, Some, MatchOption}
use Rattle.std.specs.List.{IsDistinct}
use Rattle.std.specs.Map.{keys_of}
use Rattle.point_core.specs.declared.refusal.Refusal.{Refusal}
use Rattle.point_core.specs.declared.refusal.Refusal.TheVariants.{Exists, Limit}
use Rattle.point_core.specs.declared.refusal.LimitKind.TheVariants.{Files as FilesKind}
use Rattle.point_core.specs.Named.{same_name, is_named as has_the_name, has_named, without_named, HasDistinctNames as HaveDistinctNames, things_in}
use Rattle.point_core.specs.declared.entry.Entry.{Entry}
use Rattle.syncfile_core.specs.declared.files.TheConstants.{FILES}
use Rattle.syncfile_core.specs.declared.file_slots.NumberedFile.{NumberedFile}
use Rattle.syncfile_core.specs.declared.file_slots.NumberedName.{NumberedName}
use Rattle.syncfile_core.specs.Numbered.{by_number}
use Rattle.syncfile_core.specs.SyncFile.{File, StandsFor, file_name, file_at}

abbrev pub is_named : List ℕ → File → Bool
is_named name f = has_the_name file_name name f

abbrev pub has_file : List File → List ℕ → Bool
has_file fs name = has_named file_name fs name

abbrev pub without_file : List File → List ℕ → List File
without_file fs name = without_named file_name fs name

abbrev pub names_of : List File → List (List ℕ)
names_of fs = map file_name fs

abbrev pub HasDistinctNames : List File → Type 0
HasDistinctNames fs = HaveDistinctNames file_name fs

-- there is a file of that name, and it abstracts to the set of entries
abbrev pub HasStanding : List File → List ℕ → List Entry → Type 0
HasStanding fs name set = MatchOption (file_at fs name) ⊥ (λ f. StandsFor f set)

-- the cause to refuse to make a file of that name
abbrev pub cause_to_refuse : List File → List ℕ → Option Refusal
cause_to_refuse fs name =
    if has_file fs name then Some Exists else if nat_lt (length fs) FILES then None else Some (Limit FilesKind)

-- the serial number of an entry
abbrev pub number_of : List ℕ × NumberedFile → ℕ
number_of e = e.1.number

-- the files of such entries, in order of making
abbrev pub files_made : List (List ℕ × NumberedFile) → List File
files_made es = things_in (λ m. m.file.value) (by_number number_of es)

-- each file is stored under its own name, names and numbers are distinct, and the next number is greater than all of
-- them
pub record AreKept (es : List (List ℕ × NumberedFile)) (next : ℕ) : Type 0 where
  pub keyed : All (λ e. e.0 ≡ e.1.file.value.name) es
  pub distinct : IsDistinct same_name (keys_of es)
  pub numbered : IsDistinct nat_eq (map number_of es)
  pub below : All (λ e. number_of e < next) es

-- a file with its serial number, under its name
abbrev pub entry_of : NumberedFile → List ℕ × NumberedFile
entry_of m = (m.file.value.name, m)

abbrev pub entries_of : List NumberedFile → List (List ℕ × NumberedFile)
entries_of made = map entry_of made

-- the open files: the first ones, as many as there are names
abbrev pub entries_in : List (List ℕ) → List NumberedFile → List (List ℕ × NumberedFile)
entries_in names made = entries_of (take (length names) made)

abbrev pub files_in : List (List ℕ) → List NumberedFile → List File
files_in names made = files_made (entries_in names made)

-- each file is at the index of its name, and the entries are kept so
pub record AreInPlace (names : List (List ℕ)) (made : List NumberedFile) (next : ℕ) : Type 0 where
  pub within : length names ≤ length made
  pub named : names ≡ keys_of (entries_in names made)
  pub kept : AreKept (entries_in names made) next

-- the name of a file, and its serial number
abbrev pub numbered_name_of : NumberedFile → NumberedName
numbered_name_of m = record { name = m.file.value.name; number = m.number }
