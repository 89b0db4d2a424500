-- Files that are renumbered.
use Rattle.std.specs.Prelude.{◌≡◌, ℕ, suc, List, [], ◌∷◌}
use Rattle.std.specs.List.Sorted.{IsPermutation, IsNonDecreasingBy}
use Rattle.syncfile_core.specs.declared.file_slots.NumberedFile.{NumberedFile}

-- the file with n as its serial number
abbrev pub with_number : ℕ → NumberedFile → NumberedFile
with_number n m = record { file = m.file; number = n }

-- the files in their present order, numbered from n on
abbrev pub numbered_from : ℕ → List NumberedFile → List NumberedFile
numbered_from n [] = []
numbered_from n (m ∷ ms) = with_number n m ∷ numbered_from (suc n) ms

-- the files, sorted in order of making and numbered from 0
pub record IsNumberedAnew (old new : List NumberedFile) : Type 0 where
  pub ordered : List NumberedFile
  pub same : IsPermutation old ordered
  pub rising : IsNonDecreasingBy (λ (m : NumberedFile). m.number) ordered
  pub numbered : new ≡ numbered_from 0 ordered
