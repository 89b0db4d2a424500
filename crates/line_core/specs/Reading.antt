-- The bytes of a script that were read.
use Rattle.std.specs.Prelude.{◌≡◌, ℕ, ◌+◌, ◌≤◌, List, length, take, Option, IfSome}
use Rattle.std.specs.Io.KnownBytes.{Consumes, IsAtEnd}
use Rattle.line_core.specs.declared.script.Ending.{Ending}
use Rattle.line_core.specs.declared.script.Ending.TheVariants as ending
use Rattle.line_core.specs.declared.script.TheConstants.{SCRIPT_BYTES}

-- the script is what the reader had, if that is known
abbrev pub IsInput : Option (List ℕ) → List ℕ → Type 0
IsInput known script = IfSome known (λ input. script ≡ input)

-- the bytes that were read end at the reader's end, one byte past the limit, or at a failed read
abbrev pub EndsSo : Option (List ℕ) → List ℕ → Ending → Type 0
EndsSo left bytes ending.Whole = (length bytes ≤ SCRIPT_BYTES) × IsAtEnd left
EndsSo left bytes ending.TooLong = length bytes ≡ SCRIPT_BYTES + 1
EndsSo left bytes ending.Failed = length bytes ≤ SCRIPT_BYTES

-- these bytes were read, and end as `end` says
pub record WasRead (old new : Option (List ℕ)) (bytes : List ℕ) (end : Ending) : Type 0 where
  pub consumed : Consumes old new bytes
  pub ends : EndsSo new bytes end

-- the reader's script was read, up to the byte past its limit
abbrev pub ReadsScript : Option (List ℕ) → Option (List ℕ) → Type 0
ReadsScript old new = IfSome old (λ input. Consumes old new (take (SCRIPT_BYTES + 1) input))

-- at most `most` bytes were read
pub record ConsumesAtMost (most : ℕ) (old new : Option (List ℕ)) : Type 0 where
  pub bytes : List ℕ
  pub consumed : Consumes old new bytes
  pub few : length bytes ≤ most
